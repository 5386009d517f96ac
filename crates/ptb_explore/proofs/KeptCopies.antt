-- This file proves that copies that are kept stay sound, and which of them a run continues from.
-- Main lemmas: `kept_more` and `steps_after`.
use Rattle.std.proofs.Common.{◌≡◌, ℕ, zero, suc, ◌+◌, ◌-◌, ◌<◌, ◌≤◌, List, [], ◌∷◌, ◌++◌, length}
use Rattle.std.proofs.Common.{take, drop, true, false, Some, inl, inr, refl, ap, sym, subst, ◌∙◌}
use Rattle.std.proofs.Common.{arith, length-append, length-take}
use Rattle.std.specs.Prelude.{ℤ, pos, ◌<ℤ◌, slice_index_or, if◌then◌else◌}
use Rattle.std.specs.Ordering.{int_eq}
use Rattle.std.specs.List.{AllByRecursion}
use Rattle.std.proofs.lemmas.List.{take-append-le, length-take-le}
use Rattle.std.proofs.lemmas.Int.{ints}
use Rattle.std.proofs.Math.Seq.{take-length}
use Rattle.ptb_answers.specs.declared.rules.Rules.{Rules}
use Rattle.ptb_text.specs.Statements.{StoredProgram}
use Rattle.ptb_answers.specs.Outcome.{Answers, Outcome, bound_of, bounds, bounds_after}
use Rattle.ptb_command.specs.Configuration.{Configuration}
use Rattle.ptb_explore.specs.declared.copies.KeptCopy.{KeptCopy}
use Rattle.ptb_explore.specs.Copies.{machine_of, steps_of, steps_or_none, IsCopyOf, IsSameCopy}
use Rattle.ptb_explore.specs.Copies.{KeepsCopy, with_one_free, GoesBackTo, IsCopyAt, KeptFrom}
use Rattle.ptb_explore.specs.Copies.{AreCopies, Agrees, kept_runs, newest_steps, kept_steps}
use Rattle.ptb_explore.specs.Copies.{WentBack, last_steps_of, last_steps, ArePrefixes, AreTakenBy}
use Rattle.ptb_explore.specs.Copies.{ArePlaces}
use Rattle.ptb_machine.specs.RunTree.{begins_with}
use Rattle.std.proofs.lemmas.Bool.{false_from_ne_true, and_parts, and_from}
use Rattle.ptb_machine.proofs.PublicLemmas.{length-bounds}
use Rattle.ptb_explore.proofs.Order.{same_is, same_from}

pub take_shorter : {X : Type 0} (i j : ℕ) (s : List X) → i ≤ j → take i (take j s) ≡ take i s
take_shorter zero j s l = refl
take_shorter (suc i) zero s l = absurd (omega arith)
take_shorter (suc i) (suc j) [] l = refl
take_shorter (suc i) (suc j) (x ∷ s) l = ap (λ r. x ∷ r) (take_shorter i j s (omega arith))

-- ---- copies of a run

module _ (p : StoredProgram) (input : List (List ℕ)) (rules : Rules) where
  -- the numbers that they start from are within
  kept_within : (t : Answers) (w : List ℕ) (m n : ℕ) (ks : List KeptCopy) → KeptFrom p input rules t w m n ks
      → (m ≤ length t) × (n ≤ length w)
  kept_within t w m n [] h = h
  kept_within t w m n (k ∷ ks) h = let r = kept_within t w k.taken k.shown ks h.3 in
      (omega (arith, h.0, r.0), omega (arith, h.1, r.1))

  -- more answers and more bytes
  pub kept_longer : (t u : Answers) (w v : List ℕ) (m n : ℕ) (ks : List KeptCopy) → KeptFrom p input rules t w m n ks
      → KeptFrom p input rules (t ++ u) (w ++ v) m n ks
  kept_longer t u w v m n [] h = (omega (arith, h.0, length-append t u), omega (arith, h.1, length-append w v))
  kept_longer t u w v m n (k ∷ ks) h =
      let r = kept_within t w k.taken k.shown ks h.3 in (
        h.0,
        h.1,
        rw (take-append-le k.taken t u r.0, take-append-le k.shown w v r.1) h.2,
        kept_longer t u w v k.taken k.shown ks h.3,
      )

  -- the same, and one more copy, of where play is then
  pub kept_push : (t u : Answers) (w v : List ℕ) (m n : ℕ) (ks : List KeptCopy) (k : KeptCopy)
      → KeptFrom p input rules t w m n ks → length t < k.taken → k.taken ≡ length (t ++ u) → k.shown ≡ length (w ++ v)
      → IsCopyAt p input rules k (t ++ u) (w ++ v) → KeptFrom p input rules (t ++ u) (w ++ v) m n (ks ++ k ∷ [])
  kept_push t u w v m n [] k h l e f r =
      let a : take k.taken (t ++ u) ≡ t ++ u = ap (λ i. take i (t ++ u)) e ∙ take-length (t ++ u) in
      let b : take k.shown (w ++ v) ≡ w ++ v = ap (λ i. take i (w ++ v)) f ∙ take-length (w ++ v) in
      let stands = subst (λ (T : Answers). IsCopyAt p input rules k T (take k.shown (w ++ v))) (sym a)
      (subst (λ (W : List ℕ). IsCopyAt p input rules k (t ++ u) W) (sym b) r) in
      (omega (arith, l, h.0), omega (arith, f, h.1, length-append w v), stands, (omega (arith, e), omega (arith, f)))
  kept_push t u w v m n (j ∷ ks) k h l e f r =
      let b = kept_within t w j.taken j.shown ks h.3 in (
        h.0,
        h.1,
        rw (take-append-le j.taken t u b.0, take-append-le j.shown w v b.1) h.2,
        kept_push t u w v j.taken j.shown ks k h.3 l e f r,
      )

  -- without the newest
  pub kept_front : (t : Answers) (w : List ℕ) (m n : ℕ) (ks js : List KeptCopy)
      → KeptFrom p input rules t w m n (ks ++ js) → KeptFrom p input rules t w m n ks
  kept_front t w m n [] js h = kept_within t w m n js h
  kept_front t w m n (j ∷ ks) js h = (h.0, h.1, h.2, kept_front t w j.taken j.shown ks js h.3)

  kept_lower : (t : Answers) (w : List ℕ) (m n i j : ℕ) (ks : List KeptCopy) → i ≤ m → j ≤ n
      → KeptFrom p input rules t w m n ks → KeptFrom p input rules t w i j ks
  kept_lower t w m n i j [] l u h = (omega (arith, h.0), omega (arith, h.1))
  kept_lower t w m n i j (k ∷ ks) l u h = (omega (arith, h.0), omega (arith, h.1), h.2, h.3)

  -- without the oldest
  pub kept_drop : (t : Answers) (w : List ℕ) (n : ℕ) (ks : List KeptCopy) → AreCopies p input rules t w ks
      → AreCopies p input rules t w (drop n ks)
  kept_drop t w zero ks h = h
  kept_drop t w (suc n) [] h = h
  kept_drop t w (suc n) (k ∷ ks) h =
      kept_drop t w n ks (kept_lower t w k.taken k.shown 0 0 ks (omega arith) (omega arith) h.3)

  -- what the newest copy says
  pub kept_newest : (t : Answers) (w : List ℕ) (m n : ℕ) (ks : List KeptCopy) (k : KeptCopy)
      → KeptFrom p input rules t w m n (ks ++ k ∷ [])
      → (k.taken ≤ length t) × (k.shown ≤ length w) × (m ≤ k.taken) × (n ≤ k.shown)
      × IsCopyAt p input rules k (take k.taken t) (take k.shown w)
  kept_newest t w m n [] k h = (h.3.0, h.3.1, omega (arith, h.0), h.1, h.2)
  kept_newest t w m n (j ∷ ks) k h = let r = kept_newest t w j.taken j.shown ks k h.3 in
      (r.0, r.1, omega (arith, h.0, r.2), omega (arith, h.1, r.3), r.4)

  -- cut to the newest copy's answers and bytes
  pub kept_cut : (t : Answers) (w : List ℕ) (m n : ℕ) (ks : List KeptCopy) (k : KeptCopy)
      → KeptFrom p input rules t w m n (ks ++ k ∷ [])
      → KeptFrom p input rules (take k.taken t) (take k.shown w) m n (ks ++ k ∷ [])
  kept_cut t w m n [] k h = (
    h.0,
    h.1,
    rw (take_shorter k.taken k.taken t (omega arith), take_shorter k.shown k.shown w (omega arith)) h.2,
    (omega (arith, length-take-le k.taken t h.3.0), omega (arith, length-take-le k.shown w h.3.1)),
  )
  kept_cut t w m n (j ∷ ks) k h =
      let r = kept_newest t w j.taken j.shown ks k h.3 in (
        h.0,
        h.1,
        rw (take_shorter j.taken k.taken t r.2, take_shorter j.shown k.shown w r.3) h.2,
        kept_cut t w j.taken j.shown ks k h.3,
      )

  -- one more copy may be kept, and the oldest dropped
  pub kept_more : (t u : Answers) (w v : List ℕ) (before taken shown lines : ℕ) (m : Configuration)
      (old new : List KeptCopy)
      → AreCopies p input rules t w old → before ≡ length t → taken ≡ length (t ++ u) → shown ≡ length (w ++ v)
      → ((k : KeptCopy) → before < taken → IsCopyOf m taken shown lines k → IsCopyAt p input rules k (t ++ u) (w ++ v))
      → KeepsCopy before m taken shown lines old new → AreCopies p input rules (t ++ u) (w ++ v) new
  kept_more t u w v before taken shown lines m old new h b e f stands (inl same) =
      rw same (kept_longer t u w v 0 0 old h)
  kept_more t u w v before taken shown lines m old new h b e f stands (inr (inl same)) =
      rw same (kept_longer t u w v 0 0 (with_one_free old) (kept_drop t w (length old + 1 - 64) old h))
  kept_more t u w v before taken shown lines m old new h b e f stands (inr (inr (k, more, copy, is))) =
      rw is (kept_push t u w v 0 0 (with_one_free old) k (kept_drop t w (length old + 1 - 64) old h)
      (omega (arith, b, more, copy.taken_is)) (copy.taken_is ∙ e) (copy.shown_is ∙ f) (stands k more copy))

  -- none are kept
  pub kept_none : (t : Answers) (w : List ℕ) (ks : List KeptCopy) → ks ≡ [] → AreCopies p input rules t w ks
  kept_none t w ks e = rw e (omega arith, omega arith)

  -- a copy's machine is where it is
  pub stands_machine : (k : KeptCopy) (t : Answers) (w : List ℕ) (m : Configuration) (s : IsCopyAt p input rules k t w)
      → machine_of k ≡ Some m → s.machine ≡ m
  stands_machine k t w m s h =
      let e : Some s.machine ≡ Some m = sym s.machine_is ∙ h in
      cc

  -- contracts see beginnings of the answers
  beginnings : (t : Answers) (w : List ℕ) (m n : ℕ) (ks : List KeptCopy) → KeptFrom p input rules t w m n ks
      → ArePrefixes m t (kept_runs t ks)
  beginnings t w m n [] h = tt
  beginnings t w m n (k ∷ ks) h =
      let b = kept_within t w k.taken k.shown ks h.3 in
      let e : length (take k.taken t) ≡ k.taken = length-take-le k.taken t b.0 in
      (omega (arith, e, h.0), ap (λ i. take i t) (sym e), rw e (beginnings t w k.taken k.shown ks h.3))

  pub kept_beginnings : (t : Answers) (w : List ℕ) (ks : List KeptCopy) → AreCopies p input rules t w ks
      → ArePrefixes 0 t (kept_runs t ks)
  kept_beginnings t w ks h = beginnings t w 0 0 ks h

  -- and the steps of each are those of the command that took its last answer
  pub kept_places : (t : Answers) (w : List ℕ) (m n : ℕ) (ks : List KeptCopy) → KeptFrom p input rules t w m n ks
      → ArePlaces p input rules (kept_runs t ks)
  kept_places t w m n [] h = tt
  kept_places t w m n (k ∷ ks) h =
      let s = h.2 in
      let steps : s.machine.steps ≡ steps_of k = sym (ap steps_or_none s.machine_is) in (
        subst (λ (i : ℕ). AreTakenBy p input rules (take k.taken t) i) steps s.taken_by,
        kept_places t w k.taken k.shown ks h.3,
      )

  -- a copy of a copy is where it does
  same_stands : (k j : KeptCopy) (t : Answers) (w : List ℕ) → IsSameCopy k j → IsCopyAt p input rules k t w
      → IsCopyAt p input rules j t w
  same_stands k j t w same s = record {
    machine = s.machine;
    machine_is = same.machine ∙ s.machine_is;
    unspent = s.unspent;
    within = rw same.lines_is s.within;
    taken_by = s.taken_by;
    run_prefix = rw same.lines_is s.run_prefix;
  }

-- of the same program and run
pub kept_same : (p q : StoredProgram) (input lines : List (List ℕ)) (rules : Rules) (t u : Answers) (w v : List ℕ)
    (ks js : List KeptCopy)
    → q ≡ p → lines ≡ input → u ≡ t → v ≡ w → js ≡ ks → AreCopies p input rules t w ks → AreCopies q lines rules u v js
kept_same p q input lines rules t u w v ks js a b c d e h = rw (a, b, c, d, e) h

-- ---- which of them a run continues from

pub last_at : (n : ℕ) (front : List KeptCopy) (k : KeptCopy) → last_steps_of n (front ++ k ∷ []) ≡ steps_of k
last_at n [] k = refl
last_at n (j ∷ front) k = last_at (steps_of j) front k

begins_true : (i n : ℕ) (a rest : Answers) → n ≤ i → i ≤ length a → begins_with (take i a ++ rest) (take n a) ≡ true
begins_true i zero a rest l u = refl
begins_true zero (suc n) a rest l u = absurd (omega arith)
begins_true (suc i) (suc n) [] rest l u = absurd (omega arith)
begins_true (suc i) (suc n) (x ∷ a) rest l u =
    and_from (int_eq x x) _ (same_from x) (begins_true i n a rest (omega arith) (omega arith))

begins_false : (i n : ℕ) (a rest : Answers) (y : ℤ) → i < n → n ≤ length a → slice_index_or a i (pos 0) <ℤ y
    → begins_with (take i a ++ y ∷ rest) (take n a) ≡ true → ⊥
begins_false i n [] rest y l u b h = absurd (omega arith)
begins_false i zero (x ∷ a) rest y l u b h = absurd (omega arith)
begins_false zero (suc n) (x ∷ a) rest y l u b h =
    let e : y ≡ x = same_is y x (and_parts (int_eq y x) _ h).0 in
    let less : x <ℤ y = b in
    absurd (omega (arith, ints))
begins_false (suc i) (suc n) (x ∷ a) rest y l u b h =
    begins_false i n a rest y (omega arith) (omega arith) b (and_parts (int_eq x x) _ h).1

module _ (p : StoredProgram) (input : List (List ℕ)) (rules : Rules) (i : ℕ) (a rest : Answers) (y : ℤ)
    (inside : i < length a) (below : slice_index_or a i (pos 0) <ℤ y) where
  abbrev next : Answers
  next = take i a ++ y ∷ rest

  steps_left : (w : List ℕ) (m n c : ℕ) (front dropped : List KeptCopy) (k : KeptCopy) → k.taken ≤ i
      → KeptFrom p input rules a w m n ((front ++ k ∷ []) ++ dropped)
      → newest_steps c next (kept_runs a ((front ++ k ∷ []) ++ dropped))
      ≡ newest_steps (steps_of k) next (kept_runs a dropped)
  steps_left w m n c [] dropped k l h = ap (λ b. newest_steps (if b then steps_of k else c) next (kept_runs a dropped))
      (begins_true i k.taken a (y ∷ rest) l (omega arith))
  steps_left w m n c (j ∷ front) dropped k l h =
      let b = kept_newest p input rules a w j.taken j.shown front k
      (kept_front p input rules a w j.taken j.shown (front ++ k ∷ []) dropped h.3) in
      ap (λ b. newest_steps (if b then steps_of j else c) next (kept_runs a ((front ++ k ∷ []) ++ dropped)))
      (begins_true i j.taken a (y ∷ rest) (omega (arith, b.2, l)) (omega arith))
      ∙ steps_left w j.taken j.shown (steps_of j) front dropped k l h.3

  steps_dropped : (w : List ℕ) (m n c : ℕ) (dropped : List KeptCopy) → AllByRecursion (λ k. i < k.taken) dropped
      → KeptFrom p input rules a w m n dropped → newest_steps c next (kept_runs a dropped) ≡ c
  steps_dropped w m n c [] all h = refl
  steps_dropped w m n c (k ∷ dropped) all h =
      let b = kept_within p input rules a w k.taken k.shown dropped h.3 in
      let no : begins_with next (take k.taken a) ≡ false =
      false_from_ne_true _ (begins_false i k.taken a rest y all.0 b.0 below) in
      ap (λ b. newest_steps (if b then steps_of k else c) next (kept_runs a dropped)) no
      ∙ steps_dropped w k.taken k.shown c dropped all.1 h.3

  kept_after : (w : List ℕ) (m n : ℕ) (front dropped : List KeptCopy)
      → KeptFrom p input rules a w m n (front ++ dropped) → (j : ℕ) × (q : ℕ) × KeptFrom p input rules a w j q dropped
  kept_after w m n [] dropped h = (m, n, h)
  kept_after w m n (k ∷ front) dropped h = kept_after w k.taken k.shown front dropped h.3

  -- where a run with the answer at i raised continues from what is left, that is the newest copy that its answers
  -- begin with
  pub steps_after : (w : List ℕ) (old left : List KeptCopy) → AreCopies p input rules a w old → WentBack i old left
      → kept_steps next (kept_runs a old) ≡ last_steps left
  steps_after w old left h (back, inl none) =
      let split : old ≡ back.dropped = back.split ∙ ap (λ s. s ++ back.dropped) none in
      rw (none, split) (steps_dropped w 0 0 0 back.dropped back.beyond (subst (AreCopies p input rules a w) split h))
  steps_after w old left h (back, inr (front, k, is, l)) =
      let split : old ≡ (front ++ k ∷ []) ++ back.dropped = back.split ∙ ap (λ s. s ++ back.dropped) is in
      let all = subst (AreCopies p input rules a w) split h in
      let b = kept_after w 0 0 (front ++ k ∷ []) back.dropped all in
      ap (λ ks. kept_steps next (kept_runs a ks)) split
      ∙ steps_left w 0 0 0 front back.dropped k l all
      ∙ steps_dropped w b.0 b.1 (steps_of k) back.dropped back.beyond b.2
      ∙ sym (ap last_steps is ∙ last_at 0 front k)

-- ---- a copy of the newest that is left

module _ (p : StoredProgram) (input : List (List ℕ)) (rules : Rules) where
  pub record GoesOn (most : ℕ) (t : Answers) (w : List ℕ) (left : List KeptCopy) (j : KeptCopy) : Type 0 where
    pub few : j.taken ≤ most
    pub taken : j.taken ≤ length t
    pub shown : j.shown ≤ length w
    pub stands : IsCopyAt p input rules j (take j.taken t) (take j.shown w)
    pub copies : AreCopies p input rules (take j.taken t) (take j.shown w) left
    pub steps : last_steps left ≡ steps_of j

  pub goes_on : (most : ℕ) (t : Answers) (w : List ℕ) (old left : List KeptCopy) (j : KeptCopy)
      → AreCopies p input rules t w old → GoesBackTo most old left (Some j) → GoesOn most t w left j
  goes_on most t w old left j h (back, (front, k, is, l, same)) =
      let all = kept_front p input rules t w 0 0 left back.dropped (subst (AreCopies p input rules t w) back.split h) in
      let ends = subst (AreCopies p input rules t w) is all in
      let newest = kept_newest p input rules t w 0 0 front k ends in
      let cut = kept_cut p input rules t w 0 0 front k ends in
      record {
        few = rw same.taken_is l;
        taken = rw same.taken_is newest.0;
        shown = rw same.shown_is newest.1;
        stands = subst (λ (T : Answers). IsCopyAt p input rules j T (take j.shown w))
            (ap (λ n. take n t) (sym same.taken_is))
            (subst (λ (W : List ℕ). IsCopyAt p input rules j (take k.taken t) W)
            (ap (λ n. take n w) (sym same.shown_is))
            (same_stands p input rules k j (take k.taken t) (take k.shown w) same newest.4));
        copies = rw (same.taken_is, same.shown_is, is) cut;
        steps = ap last_steps is ∙ last_at 0 front k ∙ ap steps_or_none (sym same.machine);
      }

-- ---- continuing from a prefix of an earlier run

bounds-take : {A W : Type 0} (play : Answers → Outcome A W) (n : ℕ) (p a : Answers)
    → take n (bounds_after play p a) ≡ bounds_after play p (take n a)
bounds-take play zero p a = refl
bounds-take play (suc n) p [] = refl
bounds-take play (suc n) p (k ∷ a) = ap (λ l. bound_of (play p) ∷ l) (bounds-take play n (p ++ k ∷ []) a)

module _ {A W : Type 0} (play : Answers → Outcome A W) (most n : ℕ) (plan answers : Answers) (bounded : List ℤ)
    (agrees : Agrees play most plan answers bounded) (within : n ≤ most) where
  pub agreed_len : n ≤ length bounded
  agreed_len = omega (
    arith,
    agrees.0,
    ap length agrees.2,
    length-take most bounded,
    length-take most (bounds play answers),
    length-bounds play [] answers,
  )

  pub agreed_bounds : take n bounded ≡ bounds play (take n answers)
  agreed_bounds = sym (take_shorter n most bounded within) ∙ ap (take n) agrees.2
      ∙ take_shorter n most (bounds play answers) within ∙ bounds-take play n [] answers

  pub agreed_answers : take n plan ≡ take n answers
  agreed_answers = sym (take_shorter n most plan within) ∙ ap (take n) agrees.1 ∙ take_shorter n most answers within

  -- what was taken, by a recorder with the plan and these bounds
  pub agreed_taken : (given : List ℤ) (taken : Answers) → given ≡ take n bounded → taken ≡ plan
      → take (length given) taken ≡ take n answers
  agreed_taken given taken e f = ap (λ k. take k taken) (ap length e ∙ length-take-le n bounded agreed_len)
      ∙ ap (take n) f ∙ agreed_answers
