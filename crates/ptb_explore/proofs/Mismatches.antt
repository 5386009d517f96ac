-- This file proves which item of a list is the first that does not fit, by what a play of the list shows.
-- Main lemma: `mismatch_closes`.
use Rattle.std.proofs.Common.{◌≡◌, ℕ, zero, suc, ◌+◌, ◌<◌, ◌≤◌, List, [], ◌∷◌, ◌++◌, length, take}
use Rattle.std.proofs.Common.{drop, true, false, inl, inr, refl, ap, sym, subst, ◌∙◌, arith}
use Rattle.std.proofs.Common.{append_assoc, append-nil, length-append}
use Rattle.std.specs.Prelude.{ℤ, pos, Option, Some, None, slice_index_or, IfSome, IfNone, is_some}
use Rattle.std.specs.Ordering.{int_eq}
use Rattle.std.proofs.lemmas.Bool.{cases_Bool, and_parts, and_from}
use Rattle.std.proofs.lemmas.List.{length-map, map-append, take-map, get_or-take, get_or_default}
use Rattle.std.proofs.lemmas.List.{length-take-le, take-append-le}
use Rattle.std.proofs.Math.Seq.{take-length}
use Rattle.ptb_answers.specs.declared.form.Marked.{Marked}
use Rattle.ptb_answers.specs.Outcome.{Answers, Outcome, Asks, IsReader, is_answer, is_open}
use Rattle.ptb_answers.specs.Outcome.{bound_of, bounds, bounds_after}
use Rattle.ptb_answers.specs.AnswerText.{answers_of, with_bound}
use Rattle.ptb_answers.proofs.PublicLemmas.{whole_is, closed_is}
use Rattle.ptb_explore.specs.declared.mismatch.Mismatch.{Mismatch}
use Rattle.ptb_explore.specs.declared.mismatch.Mismatch.TheVariants.{OutOfRange, OtherBound}
use Rattle.ptb_explore.specs.declared.mismatch.Mismatch.TheVariants.{NoQuestion, Missing, NotUnder}
use Rattle.ptb_explore.specs.MarkedRuns.{IsMarkedRun, IsMarkedBeginning, is_bound, states_bounds}
use Rattle.ptb_explore.specs.Mismatch.{IsOutOfRange, IsOtherBound, HasMoreItems, IsItemMismatch}
use Rattle.ptb_explore.specs.Mismatch.{LacksItem, IsRunMismatch, HasPrefix, TakesItems}
use Rattle.ptb_machine.specs.RunTree.{IsRun}
use Rattle.ptb_explore.proofs.PlayedPlans.{run_opens}
use Rattle.ptb_machine.proofs.PublicLemmas.{length-bounds, bounds-append}
use Rattle.ptb_explore.proofs.Order.{same_is}
use Rattle.ptb_explore.proofs.StatedBounds.{states_begun}
use Rattle.ptb_explore.proofs.Tree.{next_asks, run_asks}

-- ---- what is seen of a play of a list

-- the questions of a run that begins with these answers have these bounds; `later` are the answers that it takes
-- after them
pub record HasBounds {A W : Type 0} (play : Answers → Outcome A W) (answers : Answers)
    (their_bounds : List ℤ) : Type 0 where
  pub later : Answers
  pub run : IsRun play (answers ++ later)
  pub bounds_are : their_bounds ≡ bounds play (answers ++ later)

-- ---- lists

pub split_there : {X : Type 0} (s : List X) (i : ℕ) (d : X) → i < length s
    → s ≡ take i s ++ slice_index_or s i d ∷ drop (i + 1) s
split_there [] i d l = absurd (omega arith)
split_there (x ∷ s) zero d l = refl
split_there (x ∷ s) (suc i) d l = let e = split_there s i d (omega arith) in
    let n : suc i + 1 ≡ suc (i + 1) = omega arith in rw n (ap (λ r. x ∷ r) e)

-- the bound of the answer after q
bound_there : {A W : Type 0} (play : Answers → Outcome A W) (p q t : Answers) (x : ℤ)
    → slice_index_or (bounds_after play p (q ++ x ∷ t)) (length q) (pos 0) ≡ bound_of (play (p ++ q))
bound_there play p [] t x = ap (λ s. bound_of (play s)) (sym (append-nil p))
bound_there play p (y ∷ q) t x = bound_there play (p ++ y ∷ []) q t x
    ∙ ap (λ s. bound_of (play s)) (append_assoc p (y ∷ []) q)

pub take_twice : {X : Type 0} (m n : ℕ) (xs : List X) → m ≤ n → take m (take n xs) ≡ take m xs
take_twice zero n xs l = refl
take_twice (suc m) zero xs l = absurd (omega arith)
take_twice (suc m) (suc n) [] l = refl
take_twice (suc m) (suc n) (x ∷ xs) l = ap (λ r. x ∷ r) (take_twice m n xs (omega arith))

pub answers_split : (before after : List Marked) (m : Marked)
    → answers_of (before ++ m ∷ after) ≡ answers_of before ++ m.answer ∷ answers_of after
answers_split before after m = map-append (λ (x : Marked). x.answer) before (m ∷ after)

pub answers_take : (n : ℕ) (list : List Marked) → take n (answers_of list) ≡ answers_of (take n list)
answers_take n list = take-map (λ (x : Marked). x.answer) n list

pub answers_length : (list : List Marked) → length (answers_of list) ≡ length list
answers_length list = length-map list (λ (x : Marked). x.answer)

-- ---- bounds that are stated

states_split : (before : List Marked) (front back : List ℤ) (rest : List Marked) → length before ≡ length front
    → states_bounds (before ++ rest) (front ++ back) ≡ true
    → (states_bounds before front ≡ true) × (states_bounds rest back ≡ true)
states_split [] [] back rest l h = (refl, h)
states_split [] (n ∷ front) back rest l h = absurd (omega arith)
states_split (m ∷ before) [] back rest l h = absurd (omega arith)
states_split (m ∷ before) (n ∷ front) back rest l h =
    let p = and_parts (is_bound m.bound n) (states_bounds (before ++ rest) (front ++ back)) h in
    let q = states_split before front back rest (omega arith) p.1 in
    (and_from (is_bound m.bound n) (states_bounds before front) p.0 q.0, q.1)

module _ {A W : Type 0} (play : Answers → Outcome A W) where
  -- an item states the bound of its question
  states_there : (before after : List Marked) (m : Marked)
      → states_bounds (before ++ m ∷ after) (bounds play (answers_of (before ++ m ∷ after))) ≡ true
      → (states_bounds before (bounds play (answers_of before)) ≡ true)
      × (is_bound m.bound (bound_of (play (answers_of before))) ≡ true)
  states_there before after m h =
      let front = bounds play (answers_of before) in
      let back = bounds_after play (answers_of before ++ m.answer ∷ []) (answers_of after) in
      let same : bounds play (answers_of (before ++ m ∷ after)) ≡ front ++ bound_of (play (answers_of before)) ∷ back =
      ap (bounds play) (answers_split before after m) ∙ bounds-append play [] (answers_of before)
      (m.answer ∷ answers_of after) in
      let n : length before ≡ length front = sym (answers_length before)
      ∙ sym (length-bounds play [] (answers_of before)) in
      let p = states_split before front (bound_of (play (answers_of before)) ∷ back) (m ∷ after) n (rw same at h) in
      (p.0, (and_parts (is_bound m.bound (bound_of (play (answers_of before)))) (states_bounds after back) p.1).0)

-- ---- answers that are open

module _ {A W : Type 0} (play : Answers → Outcome A W) (most : ℕ) (reads : IsReader play most) where
  pub open_front : (q b : Answers) → is_open (play (q ++ b)) ≡ true → is_open (play q) ≡ true
  open_front q b o = elim (cases_Bool (is_open (play q))) [
    | inl h ↦ h
    | inr c ↦ elim (closed_is (play q) c) [
      | inl d ↦ let e : is_open (play (q ++ b)) ≡ false = ap is_open (reads.done q b (d.1 ∷ d.2) d.0 d.3) in absurd cc
      | inr d ↦ let e : is_open (play (q ++ b)) ≡ false = ap is_open (reads.out q b d.0 d.1 d.2) in absurd cc
    ]
  ]

  -- each answer of an open list is asked for, and inside its bound
  open_asks : (q b : Answers) (k : ℤ) → is_open (play (q ++ k ∷ b)) ≡ true
      → (n : ℤ) × (w : W) × (play q ≡ Asks n w) × (is_answer n k ≡ true)
  open_asks q b k o = next_asks play most reads q b k (open_front q (k ∷ b) o)
      (λ x e. let c : is_open (play (q ++ k ∷ b)) ≡ false = ap is_open e in absurd cc)
      (λ n w e. let c : is_open (play (q ++ k ∷ b)) ≡ false = ap is_open e in absurd cc)

  pub same_question : (q : Answers) (n m : ℤ) (v w : W) → play q ≡ Asks n v → play q ≡ Asks m w → n ≡ m
  same_question q n m v w e f = let g : Asks n v ≡ Asks m w = sym e ∙ f in cc

  -- ---- no run begins with a list that has an item that does not fit

  pub mismatch_closes : (list : List Marked) (m : Mismatch) → IsItemMismatch play list m → IsMarkedBeginning play list
      → ⊥
  mismatch_closes list (OutOfRange item answer bound) x b =
      let a = x.asked in
      let o : is_open (play (answers_of a.before ++ answer ∷ answers_of a.after)) ≡ true = subst
      (λ (s : Answers). is_open (play s) ≡ true) (ap answers_of a.list_is ∙ answers_split a.before a.after _) b.0 in
      let p = open_asks (answers_of a.before) (answers_of a.after) answer o in
      let same : p.0 ≡ bound = same_question (answers_of a.before) p.0 bound p.1 a.question.0 p.2 a.question.1 in
      let inside : is_answer bound answer ≡ true = subst (λ (n : ℤ). is_answer n answer ≡ true) same p.3 in
      let outside = x.outside in
      cc
  mismatch_closes list (OtherBound item stated bound) x b =
      let a = x.asked in
      let states = subst (λ (l : List Marked). states_bounds l (bounds play (answers_of l)) ≡ true) a.list_is b.1 in
      let p = (states_there play a.before a.after (with_bound x.answer stated) states).1 in
      let same : bound_of (play (answers_of a.before)) ≡ bound = ap bound_of a.question.1 in
      x.other (same_is stated bound (subst (λ (n : ℤ). int_eq stated n ≡ true) same p))
  mismatch_closes list (NoQuestion items) x b =
      let w = whole_is (play (answers_of x.before)) x.run.0 in
      let o = subst (λ (s : Answers). is_open (play s) ≡ true)
      (ap answers_of x.list_is ∙ answers_split x.before x.after x.m) b.0 in
      let p = open_asks (answers_of x.before) (answers_of x.after) x.m.answer o in
      let e = w.1 in let f = p.2 in
      absurd cc
  mismatch_closes list (Missing item bound) x b = x
  mismatch_closes list NotUnder x b = x

  -- ---- what the bounds of a run show

  -- q are the answers that are looked at, and bs the bounds of a run that begins with them
  module _ (q : Answers) (bs : List ℤ) (h : HasBounds play q bs) where
    count_bounds : length bs ≡ length q + length h.later
    count_bounds = ap length h.bounds_are ∙ length-bounds play [] (q ++ h.later) ∙ length-append q h.later

    pub asks_next : length q < length bs → (w : W) × (play q ≡ Asks (slice_index_or bs (length q) (pos 0)) w)
    asks_next l = by_later h.later refl
      where
        by_later : (s : Answers) → h.later ≡ s → (w : W) × (play q ≡ Asks (slice_index_or bs (length q) (pos 0)) w)
        by_later [] e = absurd (omega (arith, count_bounds, ap length e))
        by_later (k ∷ s) e =
            let p = run_asks play most reads q s k (subst (λ (t : Answers). IsRun play (q ++ t)) e h.run) in
            let there : slice_index_or bs (length q) (pos 0) ≡ p.0 =
            ap (λ (b : List ℤ). slice_index_or b (length q) (pos 0)) (h.bounds_are
            ∙ ap (λ (t : Answers). bounds play (q ++ t)) e) ∙ bound_there play [] q s k ∙ ap bound_of p.2 in
            (p.1, p.2 ∙ ap (λ n. Asks n p.1) (sym there))

  -- ---- the first n items of a list are taken

  module _ (list : List Marked) (bs : List ℤ) (n : ℕ) (takes : TakesItems play list bs n) where
    n_within : n ≤ length list
    n_within = takes.within

    items_count : length (answers_of (take n list)) ≡ n
    items_count = answers_length (take n list) ∙ length-take-le n list n_within

    -- all of these items fit, where they state these bounds
    pub begins_with_items : states_bounds (take n list) bs ≡ true → IsMarkedBeginning play (take n list)
    begins_with_items s =
        let q = answers_of (take n list) in
        let front : take (length q) bs ≡ bounds play q = ap (λ k. take k bs) items_count ∙ takes.bounds_are in
        (takes.opens, sym (states_begun (take n list) q bs (bounds play q) refl front) ∙ s)

    pub all_fit : n ≡ length list → states_bounds (take n list) bs ≡ true → IsMarkedBeginning play list
    all_fit e s =
        let all : take n list ≡ list = ap (λ k. take k list) e ∙ take-length list in
        subst (IsMarkedBeginning play) all (begins_with_items s)

    module _ (d : Marked) (less : n < length list) (s : states_bounds (take n list) bs ≡ true) where
      abbrev there : Marked
      there = slice_index_or list n d

      pub out_of_range : (bound : ℤ) (w : W) → play (answers_of (take n list)) ≡ Asks bound w
          → is_answer bound there.answer ≡ false → IsOutOfRange play list (n + 1) there.answer bound
      out_of_range bound w asks outside = record {
        stated = there.bound;
        asked = record {
          before = take n list;
          after = drop (n + 1) list;
          list_is = split_there list n d less;
          item_is = ap (λ k. k + 1) (sym (length-take-le n list n_within));
          begins = begins_with_items s;
          question = (w, asks);
        };
        outside = outside;
      }

      pub no_question : IsRun play (answers_of (take n list)) → HasMoreItems play list n
      no_question run = record {
        before = take n list;
        m = there;
        after = drop (n + 1) list;
        list_is = split_there list n d less;
        items_are = sym (length-take-le n list n_within);
        run = (run, (begins_with_items s).1);
      }

    -- one of them states another bound
    module _ (k : ℕ) (d : Marked) (less : k < n) (s : states_bounds (take k list) bs ≡ true) where
      abbrev item_at : Marked
      item_at = slice_index_or list k d

      in_front : (rest : Answers) × (answers_of (take n list) ≡ answers_of (take k list) ++ item_at.answer ∷ rest)
      in_front =
          let first = take n list in
          let e : first ≡ take k first ++ slice_index_or first k d ∷ drop (k + 1) first =
          split_there first k d (omega (arith, length-take-le n list n_within)) in
          let f : take k first ≡ take k list = take_twice k n list (omega arith) in
          let g : slice_index_or first k d ≡ item_at = get_or-take n list k d less in (
            answers_of (drop (k + 1) first),
            ap answers_of e ∙ answers_split (take k first) (drop (k + 1) first) (slice_index_or first k d)
                ∙ ap (λ (l : List Marked). answers_of l ++ (slice_index_or first k d).answer
                ∷ answers_of (drop (k + 1) first)) f
                ∙ ap (λ (m : Marked). answers_of (take k list) ++ m.answer ∷ answers_of (drop (k + 1) first)) g,
          )

      front_count : length (answers_of (take k list)) ≡ k
      front_count = answers_length (take k list) ∙ length-take-le k list (omega (arith, n_within))

      front_opens : is_open (play (answers_of (take k list) ++ item_at.answer ∷ in_front.0)) ≡ true
      front_opens = subst (λ (a : Answers). is_open (play a) ≡ true) in_front.1 takes.opens

      -- the bounds of the answers before it, and of its own
      front_bounds : take n bs ≡ bounds play (answers_of (take k list)) ++ bounds_after play (answers_of (take k list))
          (item_at.answer ∷ in_front.0)
      front_bounds = takes.bounds_are ∙ ap (bounds play) in_front.1
          ∙ bounds-append play [] (answers_of (take k list)) (item_at.answer ∷ in_front.0)

      front_takes : TakesItems play list bs k
      front_takes =
          let q = answers_of (take k list) in
          let more = item_at.answer ∷ in_front.0 in
          let count : length (bounds play q) ≡ k = length-bounds play [] q ∙ front_count in
          let first : take k (take n bs) ≡ bounds play q =
          ap (take k) front_bounds ∙ ap (λ j. take j (bounds play q ++ bounds_after play q more)) (sym count)
          ∙ take-append-le (length (bounds play q)) (bounds play q) (bounds_after play q more) (omega arith)
          ∙ take-length (bounds play q) in
          record {
            within = omega (arith, n_within);
            counted = omega (arith, takes.counted);
            opens = open_front q more front_opens;
            bounds_are = sym (take_twice k n bs (omega arith)) ∙ first;
          }

      pub other_bound : (stated : ℤ) → item_at.bound ≡ Some stated → (stated ≡ slice_index_or bs k (pos 0) → ⊥)
          → IsOtherBound play list (k + 1) stated (slice_index_or bs k (pos 0))
      other_bound stated is other =
          let q = answers_of (take k list) in
          let opens = open_asks q in_front.0 item_at.answer front_opens in
          let at : slice_index_or bs k (pos 0) ≡ opens.0 =
          sym (get_or-take n bs k (pos 0) less) ∙ ap (λ (b : List ℤ). slice_index_or b k (pos 0))
          (takes.bounds_are ∙ ap (bounds play) in_front.1)
          ∙ ap (λ j. slice_index_or (bounds play (q ++ item_at.answer ∷ in_front.0)) j (pos 0)) (sym front_count)
          ∙ bound_there play [] q in_front.0 item_at.answer ∙ ap bound_of opens.2 in
          record {
            answer = item_at.answer;
            asked = record {
              before = take k list;
              after = drop (k + 1) list;
              list_is = split_there list k d (omega (arith, n_within)) ∙ ap (λ (o : Option ℤ). take k list
                  ++ record { answer = item_at.answer; bound = o } ∷ drop (k + 1) list) is;
              item_is = ap (λ i. i + 1) (sym (length-take-le k list (omega (arith, n_within))));
              begins = first_begins;
              question = (opens.1, opens.2 ∙ ap (λ b. Asks b opens.1) (sym at));
            };
            inside = subst (λ (b : ℤ). is_answer b item_at.answer ≡ true) (sym at) opens.3;
            other = other;
          }
        where
          first_begins : IsMarkedBeginning play (take k list)
          first_begins =
              let q = answers_of (take k list) in
              let front : take (length q) bs ≡ bounds play q =
              ap (λ j. take j bs) front_count ∙ front_takes.bounds_are in
              (front_takes.opens, sym (states_begun (take k list) q bs (bounds play q) refl front) ∙ s)

-- the bounds that are stated are looked at one by one
pub states_more : (list : List Marked) (bs : List ℤ) (k : ℕ) (d : Marked) → k < length list → k < length bs
    → states_bounds (take k list) bs ≡ true
    → is_bound (slice_index_or list k d).bound (slice_index_or bs k (pos 0)) ≡ true
    → states_bounds (take (k + 1) list) bs ≡ true
states_more list bs k d l u h right = subst (λ (n : ℕ). states_bounds (take n list) bs ≡ true) (suc_is k)
    (by_place list bs k d l u h right)
  where
    suc_is : (n : ℕ) → suc n ≡ n + 1
    suc_is n = omega arith

    by_place : (list : List Marked) (bs : List ℤ) (k : ℕ) (d : Marked) → k < length list → k < length bs
        → states_bounds (take k list) bs ≡ true
        → is_bound (slice_index_or list k d).bound (slice_index_or bs k (pos 0)) ≡ true
        → states_bounds (take (suc k) list) bs ≡ true
    by_place [] bs k d l u h right = absurd (omega arith)
    by_place (m ∷ list) [] k d l u h right = absurd (omega arith)
    by_place (m ∷ list) (n ∷ bs) zero d l u h right = and_from (is_bound m.bound n) true right refl
    by_place (m ∷ list) (n ∷ bs) (suc k) d l u h right =
        let p = and_parts (is_bound m.bound n) (states_bounds (take k list) bs) h in
        and_from (is_bound m.bound n) (states_bounds (take (suc k) list) bs) p.0
        (by_place list bs k d (omega arith) (omega arith) p.1 right)

-- ---- what a run that begins with a list shows

module _ {A W : Type 0} (play : Answers → Outcome A W) (most : ℕ) (reads : IsReader play most) where
  -- it asks for one item more
  pub missing_item : (list : List Marked) (bs : List ℤ) → HasBounds play (answers_of list) bs
      → IsMarkedBeginning play list
      → (bound : ℤ) → bound ≡ slice_index_or bs (length list) bound → length list < length bs
      → LacksItem play list (length list + 1) bound
  missing_item list bs h begins bound read l =
      let n = answers_length list in
      let p = asks_next play most reads (answers_of list) bs h (omega (arith, n)) in
      let same : slice_index_or bs (length list) (pos 0) ≡ bound =
      get_or_default bs (length list) (pos 0) bound l ∙ sym read in
      record {
        item_is = refl;
        begins = begins;
        question = (p.0, p.1 ∙ ap (λ k. Asks (slice_index_or bs k (pos 0)) p.0) n ∙ ap (λ k. Asks k p.0) same);
      }

  -- ---- of a run

  pub item_is_run : (under list : List Marked) (m : Mismatch) → HasPrefix under list → IsItemMismatch play list m
      → IsRunMismatch play under list m
  item_is_run under list (OutOfRange item answer bound) u x = (u, x)
  item_is_run under list (OtherBound item stated bound) u x = (u, x)
  item_is_run under list (NoQuestion items) u x = (u, x)
  item_is_run under list (Missing item bound) u x = absurd x
  item_is_run under list NotUnder u x = absurd x

  -- of a list that begins with another, it is that of the list alone
  pub alone_is_under : (under list : List Marked) (m : Mismatch) → HasPrefix under list → IsRunMismatch play [] list m
      → IsRunMismatch play under list m
  alone_is_under under list (OutOfRange item answer bound) u x = (u, x.1)
  alone_is_under under list (OtherBound item stated bound) u x = (u, x.1)
  alone_is_under under list (NoQuestion items) u x = (u, x.1)
  alone_is_under under list (Missing item bound) u x = (u, x.1)
  alone_is_under under list NotUnder u x = absurd cc

  pub run_begins : (list : List Marked) → IsMarkedRun play list → IsMarkedBeginning play list
  run_begins list run = (run_opens play most reads (answers_of list) run.0, run.1)

  pub run_closes : (under list : List Marked) (m : Mismatch) → IsRunMismatch play under list m → IsMarkedRun play list
      → HasPrefix under list → ⊥
  run_closes under list (OutOfRange item answer bound) x run b =
      mismatch_closes play most reads list (OutOfRange item answer bound) x.1 (run_begins list run)
  run_closes under list (OtherBound item stated bound) x run b =
      mismatch_closes play most reads list (OtherBound item stated bound) x.1 (run_begins list run)
  run_closes under list (NoQuestion items) x run b =
      mismatch_closes play most reads list (NoQuestion items) x.1 (run_begins list run)
  run_closes under list (Missing item bound) x run b = let w = whole_is (play (answers_of list)) run.0 in let e = w.1 in
      let f = x.1.question.1 in absurd cc
  run_closes under list NotUnder x run b = absurd cc

-- ---- by what is found

pub if_none_at : {T P : Type 0} {o : Option T} → o ≡ None → IfNone o P → P
if_none_at {P = P} is h = subst (λ o. IfNone o P) is h

pub none_is : {T : Type 0} (o : Option T) → false ≡ is_some o → o ≡ None
none_is None h = refl
none_is (Some x) h = absurd cc

pub if_some_at : {T : Type 0} (P : T → Type 0) {o : Option T} {x : T} → o ≡ Some x → IfSome o P → P x
if_some_at P is h = subst (λ o. IfSome o P) is h

pub if_some_more : {T : Type 0} {P Q : T → Type 0} (o : Option T) → ((x : T) → P x → Q x) → IfSome o P → IfSome o Q
if_some_more None f h = tt
if_some_more (Some x) f h = f x h
