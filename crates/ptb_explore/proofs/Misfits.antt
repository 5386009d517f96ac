-- This file proves that a list is no run, or begins none, for one reason, and that there is a reason exactly then.
-- Main lemma: `mismatch_laws`.
use Rattle.std.proofs.Common.{◌≡◌, ℕ, ◌+◌, List, [], ◌∷◌, ◌++◌, length, true, false, ◌⊎◌, inl, inr}
use Rattle.std.proofs.Common.{refl, ap, sym, subst, ◌∙◌, arith, append_assoc, append-nil}
use Rattle.std.specs.Prelude.{ℤ, Option, Some, None}
use Rattle.std.specs.Ordering.{int_eq}
use Rattle.std.proofs.lemmas.Bool.{cases_Bool, and_parts, and_from}
use Rattle.ptb_answers.specs.declared.form.Marked.{Marked}
use Rattle.ptb_answers.specs.Outcome.{Answers, Outcome, Asks, IsReader, is_answer, is_open, is_whole, bound_of, bounds}
use Rattle.ptb_answers.specs.AnswerText.{answers_of, with_bound}
use Rattle.ptb_answers.proofs.PublicLemmas.{whole_is, open_is}
use Rattle.ptb_explore.specs.declared.mismatch.Mismatch.{Mismatch}
use Rattle.ptb_explore.specs.declared.mismatch.Mismatch.TheVariants.{OutOfRange, OtherBound}
use Rattle.ptb_explore.specs.declared.mismatch.Mismatch.TheVariants.{NoQuestion, Missing, NotUnder}
use Rattle.ptb_explore.specs.MarkedRuns.{IsMarkedRun, IsMarkedBeginning, is_bound, states_bounds}
use Rattle.ptb_explore.specs.Mismatch.{IsAskedFor, IsQuestion, IsItemMismatch, LacksItem, IsRunMismatch}
use Rattle.ptb_explore.specs.Mismatch.{HasPrefix, MismatchLaws}
use Rattle.ptb_machine.specs.RunTree.{IsRun, begins_with}
use Rattle.ptb_machine.proofs.PublicLemmas.{length-bounds, bounds-append}
use Rattle.ptb_explore.proofs.Mismatches.{answers_length, answers_split, item_is_run}
use Rattle.ptb_explore.proofs.Mismatches.{mismatch_closes, run_begins, run_closes, same_question}
use Rattle.ptb_explore.proofs.Order.{same_from}

states_join : (before : List Marked) (front back : List ℤ) (rest : List Marked) → length before ≡ length front
    → states_bounds before front ≡ true → states_bounds rest back ≡ true
    → states_bounds (before ++ rest) (front ++ back) ≡ true
states_join [] [] back rest l h k = k
states_join [] (n ∷ front) back rest l h k = absurd (omega arith)
states_join (m ∷ before) [] back rest l h k = absurd (omega arith)
states_join (m ∷ before) (n ∷ front) back rest l h k =
    let p = and_parts (is_bound m.bound n) (states_bounds before front) h in
    and_from (is_bound m.bound n) (states_bounds (before ++ rest) (front ++ back)) p.0
    (states_join before front back rest (omega arith) p.1 k)

-- two places in a list
splits : {X : Type 0} (b c : List X) (x y : X) (r s : List X) → b ++ x ∷ r ≡ c ++ y ∷ s
    → ((b ≡ c) × (x ≡ y)) ⊎ ((t : List X) × (c ≡ b ++ x ∷ t)) ⊎ ((t : List X) × (b ≡ c ++ y ∷ t))
splits [] [] x y r s e = inl (refl, cc)
splits [] (z ∷ c) x y r s e = let same : x ≡ z = cc in inr (inl (c, ap (λ w. w ∷ c) (sym same)))
splits (z ∷ b) [] x y r s e = let same : z ≡ y = cc in inr (inr (b, ap (λ w. w ∷ b) same))
splits (z ∷ b) (w ∷ c) x y r s e =
    let same : z ≡ w = cc in
    let rest : b ++ x ∷ r ≡ c ++ y ∷ s = cc in
    elim (splits b c x y r s rest) [
      | inl p ↦ inl (ap (λ u. u ∷ b) same ∙ ap (λ l. w ∷ l) p.0, p.1)
      | inr o ↦ elim o [
        | inl p ↦ inr (inl (p.0, ap (λ u. u ∷ c) (sym same) ∙ ap (λ l. z ∷ l) p.1))
        | inr p ↦ inr (inr (p.0, ap (λ u. u ∷ b) same ∙ ap (λ l. w ∷ l) p.1))
      ]
    ]

module _ {A W : Type 0} (play : Answers → Outcome A W) (most : ℕ) (reads : IsReader play most) where
  -- ---- there is a reason

  fits_more : (before : List Marked) (m : Marked) (n : ℤ) (w : W) → IsMarkedBeginning play before
      → play (answers_of before) ≡ Asks n w → is_answer n m.answer ≡ true → is_bound m.bound n ≡ true
      → IsMarkedBeginning play (before ++ m ∷ [])
  fits_more before m n w b asks inside states =
      let q = answers_of before in
      let is : answers_of (before ++ m ∷ []) ≡ q ++ m.answer ∷ [] = answers_split before [] m in
      let bound : bound_of (play q) ≡ n = ap bound_of asks in
      let are : bounds play (answers_of (before ++ m ∷ [])) ≡ bounds play q ++ bound_of (play q) ∷ [] =
      ap (bounds play) is ∙ bounds-append play [] q (m.answer ∷ []) in
      let last : states_bounds (m ∷ []) (bound_of (play q) ∷ []) ≡ true =
      and_from (is_bound m.bound (bound_of (play q))) true (ap (is_bound m.bound) bound ∙ states) refl in
      let long : length before ≡ length (bounds play q) = sym (answers_length before) ∙ sym (length-bounds play [] q)
      in (
        ap (λ (t : Answers). is_open (play t)) is ∙ reads.inside q n m.answer w asks inside,
        ap (states_bounds (before ++ m ∷ [])) are ∙ states_join before (bounds play q) (bound_of (play q) ∷ [])
            (m ∷ []) long b.1 last,
      )

  -- an item after which nothing comes is asked for
  abbrev asked_last : (before : List Marked) (m : Marked) (n : ℤ) → IsMarkedBeginning play before → IsQuestion play
      before n
      → IsAskedFor play (before ++ m ∷ []) (length before + 1) m n
  asked_last before m n begins question = record {
    before = before;
    after = [];
    list_is = refl;
    item_is = refl;
    begins = begins;
    question = question;
  }

  -- it is asked for, too, where other items come after it
  asked_before : (list : List Marked) (item : ℕ) (m : Marked) (bound : ℤ) (a : IsAskedFor play list item m bound)
      (later : List Marked) → IsAskedFor play (a.before ++ m ∷ later) item m bound
  asked_before list item m bound a later = record {
    before = a.before;
    after = later;
    list_is = refl;
    item_is = a.item_is;
    begins = a.begins;
    question = a.question;
  }

  abbrev Decided : List Marked → Type 0
  Decided list = IsMarkedBeginning play list ⊎ ((m : Mismatch) × IsItemMismatch play list m)

  decided_there : (before after : List Marked) (m : Marked) → IsMarkedBeginning play before
      → (IsMarkedBeginning play (before ++ m ∷ []) → Decided ((before ++ m ∷ []) ++ after))
      → Decided (before ++ m ∷ after)
  decided_there before after m b rest = elim (open_is (play (answers_of before)) b.0) [
    | inl d ↦ inr (
      NoQuestion (length before),
      record {
        before = before;
        m = m;
        after = after;
        list_is = refl;
        items_are = refl;
        run = (ap is_whole d.1, b.1);
      },
    )
    | inr q ↦ elim (cases_Bool (is_answer q.0 m.answer)) [
      | inr o ↦
          inr (
            OutOfRange (length before + 1) m.answer q.0,
            record {
              stated = m.bound;
              asked = asked_before (before ++ m ∷ []) (length before + 1) m q.0 (asked_last before m q.0 b (q.1, q.2))
                  after;
              outside = o;
            },
          )
      | inl i ↦ by_bound q.0 q.1 q.2 i m.bound refl
    ]
  ]
    where
      more : Decided ((before ++ m ∷ []) ++ after) → Decided (before ++ m ∷ after)
      more d = subst Decided (append_assoc before (m ∷ []) after) d

      differs : (s n : ℤ) → s ≡ n → int_eq s n ≡ false → ⊥
      differs s n same other = let t = same_from n in let u = ap (λ x. int_eq x n) same in absurd cc

      by_bound : (n : ℤ) (w : W) → play (answers_of before) ≡ Asks n w → is_answer n m.answer ≡ true → (o : Option ℤ)
          → m.bound ≡ o → Decided (before ++ m ∷ after)
      by_bound n w asks i None e = more (rest (fits_more before m n w b asks i (ap (λ o. is_bound o n) e)))
      by_bound n w asks i (Some s) e = elim (cases_Bool (int_eq s n)) [
        | inl same ↦ more (rest (fits_more before m n w b asks i (ap (λ o. is_bound o n) e ∙ same)))
        | inr other ↦ inr (
          OtherBound (length before + 1) s n,
          record {
            answer = m.answer;
            asked = record {
              before = before;
              after = after;
              list_is = ap (λ (o : Option ℤ). before ++ record { answer = m.answer; bound = o } ∷ after) e;
              item_is = refl;
              begins = b;
              question = (w, asks);
            };
            inside = i;
            other = λ same. differs s n same other;
          },
        )
      ]

  decided_from : (before after : List Marked) → IsMarkedBeginning play before → Decided (before ++ after)
  decided_from before [] b = inl (subst (IsMarkedBeginning play) (sym (append-nil before)) b)
  decided_from before (m ∷ after) b = decided_there before after m b (λ c. decided_from (before ++ m ∷ []) after c)

  decided : (list : List Marked) → Decided list
  decided list = decided_from [] list (reads.begins, refl)

  -- ---- and there is one alone

  -- why an item that comes after these does not fit
  abbrev Why : List Marked → Marked → Mismatch → Type 0
  Why before m (OutOfRange item answer bound) = (item ≡ length before + 1) × (m.answer ≡ answer)
      × IsQuestion play before bound × (is_answer bound answer ≡ false)
  Why before m (OtherBound item stated bound) = (item ≡ length before + 1) × (m.bound ≡ Some stated)
      × IsQuestion play before bound × (is_answer bound m.answer ≡ true) × (stated ≡ bound → ⊥)
  Why before m (NoQuestion items) = (items ≡ length before) × IsRun play (answers_of before)
  Why before m (Missing item bound) = ⊥
  Why before m NotUnder = ⊥

  record IsMisfit (list : List Marked) (reason : Mismatch) : Type 0 where
    before : List Marked
    m : Marked
    after : List Marked
    list_is : list ≡ before ++ m ∷ after
    begins : IsMarkedBeginning play before
    why : Why before m reason
    -- whatever items come after it
    always : (later : List Marked) → IsItemMismatch play (before ++ m ∷ later) reason

  misfit : (list : List Marked) (r : Mismatch) → IsItemMismatch play list r → IsMisfit list r
  misfit list (OutOfRange item answer bound) x = let a = x.asked in record {
    before = a.before;
    m = record { answer = answer; bound = x.stated };
    after = a.after;
    list_is = a.list_is;
    begins = a.begins;
    why = (a.item_is, refl, a.question, x.outside);
    always = λ later. record {
      stated = x.stated;
      asked = asked_before list item (record { answer = answer; bound = x.stated }) bound a later;
      outside = x.outside;
    };
  }
  misfit list (OtherBound item stated bound) x = let a = x.asked in record {
    before = a.before;
    m = with_bound x.answer stated;
    after = a.after;
    list_is = a.list_is;
    begins = a.begins;
    why = (a.item_is, refl, a.question, x.inside, x.other);
    always = λ later. record {
      answer = x.answer;
      asked = asked_before list item (with_bound x.answer stated) bound a later;
      inside = x.inside;
      other = x.other;
    };
  }
  misfit list (NoQuestion items) x = record {
    before = x.before;
    m = x.m;
    after = x.after;
    list_is = x.list_is;
    begins = run_begins play most reads x.before x.run;
    why = (x.items_are, x.run.0);
    always = λ later. record {
      before = x.before;
      m = x.m;
      after = later;
      list_is = refl;
      items_are = x.items_are;
      run = x.run;
    };
  }
  misfit list (Missing item bound) x = absurd x
  misfit list NotUnder x = absurd x

  no_answer_of : {P : Type 0} (q : List Marked) (bound : ℤ) → IsQuestion play q bound → IsRun play (answers_of q) → P
  no_answer_of q bound asks run = let w = whole_is (play (answers_of q)) run in let e = w.1 in let f = asks.1 in
      absurd cc

  same_bound : (q : List Marked) (n k : ℤ) → IsQuestion play q n → IsQuestion play q k → n ≡ k
  same_bound q n k a b = same_question play most reads (answers_of q) n k a.0 b.0 a.1 b.1

  same_why : (q : List Marked) (m : Marked) (r s : Mismatch) → Why q m r → Why q m s → r ≡ s
  same_why q m (OutOfRange i a n) (OutOfRange j b k) x y = let i_is = x.0 in let j_is = y.0 in
      let a_is = x.1 in let b_is = y.1 in let bound = same_bound q n k x.2 y.2 in
      cc
  same_why q m (OutOfRange i a n) (OtherBound j t k) x y = let bound = same_bound q n k x.2 y.2 in
      let f : is_answer k m.answer ≡ false = ap (λ b. is_answer b m.answer) (sym bound) ∙ ap (is_answer n) x.1 ∙ x.3 in
      let t = y.3 in absurd cc
  same_why q m (OutOfRange i a n) (NoQuestion j) x y = no_answer_of q n x.2 y.1
  same_why q m (OtherBound i t n) (OutOfRange j b k) x y = let bound = same_bound q k n y.2 x.2 in
      let f : is_answer n m.answer ≡ false = ap (λ c. is_answer c m.answer) (sym bound) ∙ ap (is_answer k) y.1 ∙ y.3 in
      let t = x.3 in absurd cc
  same_why q m (OtherBound i t n) (OtherBound j u k) x y = let i_is = x.0 in let j_is = y.0 in
      let stated : Some t ≡ Some u = sym x.1 ∙ y.1 in let bound = same_bound q n k x.2 y.2 in
      cc
  same_why q m (OtherBound i t n) (NoQuestion j) x y = no_answer_of q n x.2 y.1
  same_why q m (NoQuestion i) (OutOfRange j b k) x y = no_answer_of q k y.2 x.1
  same_why q m (NoQuestion i) (OtherBound j u k) x y = no_answer_of q k y.2 x.1
  same_why q m (NoQuestion i) (NoQuestion j) x y = ap NoQuestion (x.0 ∙ sym y.0)
  same_why q m (Missing i n) s x y = absurd x
  same_why q m NotUnder s x y = absurd x
  same_why q m (OutOfRange i a n) (Missing j k) x y = absurd y
  same_why q m (OutOfRange i a n) NotUnder x y = absurd y
  same_why q m (OtherBound i t n) (Missing j k) x y = absurd y
  same_why q m (OtherBound i t n) NotUnder x y = absurd y
  same_why q m (NoQuestion i) (Missing j k) x y = absurd y
  same_why q m (NoQuestion i) NotUnder x y = absurd y

  -- no item that fits comes after one that does not
  not_before : (list : List Marked) (r : Mismatch) (x : IsMisfit list r) (longer t : List Marked)
      → IsMarkedBeginning play longer → longer ≡ x.before ++ x.m ∷ t → ⊥
  not_before list r x longer t b e = mismatch_closes play most reads (x.before ++ x.m ∷ t) r (x.always t)
      (subst (IsMarkedBeginning play) e b)

  one_misfit : (list : List Marked) (r s : Mismatch) → IsMisfit list r → IsMisfit list s → r ≡ s
  one_misfit list r s x y = elim (splits x.before y.before x.m y.m x.after y.after (sym x.list_is ∙ y.list_is)) [
    | inl p ↦ same_why y.before y.m r s
        (subst (λ (b : List Marked). Why b y.m r) p.0 (subst (λ (m : Marked). Why x.before m r) p.1 x.why)) y.why
    | inr o ↦ elim o [
      | inl p ↦ absurd (not_before list r x y.before p.0 y.begins p.1)
      | inr p ↦ absurd (not_before list s y x.before p.0 x.begins p.1)
    ]
  ]

  one_item : (list : List Marked) (r s : Mismatch) → IsItemMismatch play list r → IsItemMismatch play list s → r ≡ s
  one_item list r s x y = one_misfit list r s (misfit list r x) (misfit list s y)

  -- ---- of a run

  data Reason (under list : List Marked) (r : Mismatch) : Type 0 where
    AtItem : HasPrefix under list → IsItemMismatch play list r → Reason under list r
    Lacks : (item : ℕ) (bound : ℤ) → r ≡ Missing item bound → HasPrefix under list → LacksItem play list item bound
        → Reason under list r
    Other : r ≡ NotUnder → begins_with (answers_of list) (answers_of under) ≡ false → Reason under list r

  reason : (under list : List Marked) (r : Mismatch) → IsRunMismatch play under list r → Reason under list r
  reason under list (OutOfRange item answer bound) x = AtItem x.0 x.1
  reason under list (OtherBound item stated bound) x = AtItem x.0 x.1
  reason under list (NoQuestion items) x = AtItem x.0 x.1
  reason under list (Missing item bound) x = Lacks item bound refl x.0 x.1
  reason under list NotUnder x = Other refl x

  one_reason : (under list : List Marked) (r s : Mismatch) → Reason under list r → Reason under list s → r ≡ s
  one_reason under list r s (AtItem u x) (AtItem v y) = one_item list r s x y
  one_reason under list r s (AtItem u x) (Lacks i n e v y) = absurd (mismatch_closes play most reads list r x y.begins)
  one_reason under list r s (AtItem u x) (Other e y) = absurd cc
  one_reason under list r s (Lacks i n e u x) (AtItem v y) = absurd (mismatch_closes play most reads list s y x.begins)
  one_reason under list r s (Lacks i n e u x) (Lacks j k f v y) = let item = x.item_is ∙ sym y.item_is in
      let bound = same_bound list n k x.question y.question in
      cc
  one_reason under list r s (Lacks i n e u x) (Other f y) = absurd cc
  one_reason under list r s (Other e x) (AtItem v y) = absurd cc
  one_reason under list r s (Other e x) (Lacks j k f v y) = absurd cc
  one_reason under list r s (Other e x) (Other f y) = e ∙ sym f

  decided_run : (under list : List Marked)
      → (IsMarkedRun play list × HasPrefix under list) ⊎ ((m : Mismatch) × IsRunMismatch play under list m)
  decided_run under list = elim (cases_Bool (begins_with (answers_of list) (answers_of under))) [
    | inr h ↦ inr (NotUnder, h)
    | inl u ↦ elim (decided list) [
      | inr x ↦ inr (x.0, item_is_run play most reads under list x.0 u x.1)
      | inl b ↦ elim (open_is (play (answers_of list)) b.0) [
        | inr q ↦ inr (Missing (length list + 1) q.0, (u, record { item_is = refl; begins = b; question = (q.1, q.2) }))
        | inl d ↦ inl ((ap is_whole d.1, b.1), u)
      ]
    ]
  ]

  pub mismatch_laws : MismatchLaws play
  mismatch_laws = record {
    beginning = λ list. (
      λ none. elim (decided list) [ inl b ↦ absurd (none b) | inr x ↦ x ],
      λ x b. mismatch_closes play most reads list x.0 x.1 b,
    );
    one_beginning = one_item;
    run = λ under list. (
      λ none. elim (decided_run under list) [ inl r ↦ absurd (none r) | inr x ↦ x ],
      λ x r. run_closes play most reads under list x.0 x.1 r.0 r.1,
    );
    one_run = λ under list r s x y. one_reason under list r s (reason under list r x) (reason under list s y);
  }
