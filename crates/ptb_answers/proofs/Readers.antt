-- This file proves that what is made of readers of answers is a reader of answers.
--     done_reader, success_reader, failure_reader      takes no answer
--     answer_reader                                    takes one
--     then_reader, then_reader_by                      one reader after the other
--     bind_reader, bind_reader_by, bind_reader_alone           the same for `>>=`; the last where only the first takes
--                                                              answers
--     map_reader                                       a reader with another result, and another value beside its
--                                                      questions
--     wider_reader                                     the same reader with a greater bound
--     Came, came, whole_is, open_is, closed_is         what an outcome is
-- Main lemma: `bind_reader`.
use Rattle.std.proofs.Common.{◌≡◌, ℕ, ◌+◌, ◌<◌, ◌≤◌, [], ◌∷◌, ◌++◌, length, true, false, cond}
use Rattle.std.proofs.Common.{Result, Ok, Err, ◌⊎◌, inl, inr, refl, ap, sym, ◌∙◌, arith}
use Rattle.std.specs.Prelude.{ℤ, pos, ◌≤ℤ◌}
use Rattle.std.proofs.lemmas.Bool.{cases_Bool}
use Rattle.ptb_answers.specs.Outcome.{Answers, Outcome, Done, Asks, Out, go_on, unless_error, ◌>>=◌}
use Rattle.ptb_answers.specs.Outcome.{success, failure, is_answer, answer, is_whole, is_open}
use Rattle.ptb_answers.specs.Outcome.{IsReader}

-- ---- what an outcome is

module _ {A W : Type 0} where
  pub data Came (v : Outcome A W) : Type 0 where
    Gave : (x : A) (rest : Answers) → v ≡ Done x rest → Came v
    Asked : (n : ℤ) (w : W) → v ≡ Asks n w → Came v
    Refused : (n : ℤ) (w : W) → v ≡ Out n w → Came v

  pub came : (v : Outcome A W) → Came v
  came (Done x rest) = Gave x rest refl
  came (Asks n w) = Asked n w refl
  came (Out n w) = Refused n w refl

  pub whole_is : (v : Outcome A W) → is_whole v ≡ true → (x : A) × (v ≡ Done x [])
  whole_is (Done x []) h = (x, refl)
  whole_is (Done x (k ∷ rest)) h = absurd cc
  whole_is (Asks n w) h = absurd cc
  whole_is (Out n w) h = absurd cc

  pub open_is : (v : Outcome A W) → is_open v ≡ true
      → ((x : A) × (v ≡ Done x [])) ⊎ ((n : ℤ) × (w : W) × (v ≡ Asks n w))
  open_is (Done x []) h = inl (x, refl)
  open_is (Done x (k ∷ rest)) h = absurd cc
  open_is (Asks n w) h = inr (n, w, refl)
  open_is (Out n w) h = absurd cc

  pub closed_is : (v : Outcome A W) → is_open v ≡ false
      → ((x : A) × (k : ℤ) × (rest : Answers) × (v ≡ Done x (k ∷ rest))) ⊎ ((n : ℤ) × (w : W) × (v ≡ Out n w))
  closed_is (Done x []) h = absurd cc
  closed_is (Done x (k ∷ rest)) h = inl (x, k, rest, refl)
  closed_is (Asks n w) h = absurd cc
  closed_is (Out n w) h = inr (n, w, refl)

-- ---- no answer

module _ {A W : Type 0} where
  abbrev with_more : Outcome A W → Answers → Outcome A W
  with_more (Done x rest) b = Done x (rest ++ b)
  with_more (Asks n w) b = Asks n w
  with_more (Out n w) b = Out n w

  pub done_reader : (x : A) (most : ℕ) → IsReader {W = W} (λ a. Done x a) most
  done_reader x most = record {
    begins = refl;
    done = λ q b rest y e. ap (λ v. with_more v b) e;
    out = λ q b n w e. absurd cc;
    inside = λ q n k w e i. absurd cc;
    outside = λ q n k w e o. absurd cc;
    positive = λ q n w e. absurd cc;
    few = λ q n w e. absurd cc;
    spends = λ q rest y e. let r : q ≡ rest = cc in rw r (omega arith);
  }

pub success_reader : {A E W : Type 0} (x : A) (most : ℕ) → IsReader {W = W} (success {E = E} x) most
success_reader x most = done_reader (Ok x) most

pub failure_reader : {A E W : Type 0} (e : E) (most : ℕ) → IsReader {W = W} (failure {A = A} e) most
failure_reader e most = done_reader (Err e) most

-- ---- one answer

module _ {W : Type 0} (n : ℤ) (w : W) (positive : pos 1 ≤ℤ n) where
  answer-none : answer n w [] ≡ Asks n w
  unfolding answer
  answer-none = refl

  answer-in : (k : ℤ) (rest : Answers) → is_answer n k ≡ true → answer n w (k ∷ rest) ≡ Done k rest
  unfolding answer
  answer-in k rest h = ap (λ b. cond b (Done k rest) (Out n w)) h

  answer-out : (k : ℤ) (rest : Answers) → is_answer n k ≡ false → answer n w (k ∷ rest) ≡ Out n w
  unfolding answer
  answer-out k rest h = ap (λ b. cond b (Done k rest) (Out n w)) h

  answer_done : (q b rest : Answers) (x : ℤ) → answer n w q ≡ Done x rest → answer n w (q ++ b) ≡ Done x (rest ++ b)
  answer_done [] b rest x e = let o = answer-none in absurd cc
  answer_done (k ∷ q) b rest x e = elim (cases_Bool (is_answer n k)) [
    | inl h ↦ answer-in k (q ++ b) h ∙ ap (λ v. with_more v b) (sym (answer-in k q h) ∙ e)
    | inr h ↦ let o = answer-out k q h in absurd cc
  ]

  answer_out : (q b : Answers) (m : ℤ) (v : W) → answer n w q ≡ Out m v → answer n w (q ++ b) ≡ Out m v
  answer_out [] b m v e = let o = answer-none in absurd cc
  answer_out (k ∷ q) b m v e = elim (cases_Bool (is_answer n k)) [
    | inl h ↦ let o = answer-in k q h in absurd cc
    | inr h ↦ answer-out k (q ++ b) h ∙ sym (answer-out k q h) ∙ e
  ]

  -- it asks only where it has nothing
  answer_asks : (q : Answers) (m : ℤ) (v : W) → answer n w q ≡ Asks m v → (q ≡ []) × (n ≡ m) × (w ≡ v)
  answer_asks [] m v e = let o = answer-none in (refl, cc, cc)
  answer_asks (k ∷ q) m v e = elim (cases_Bool (is_answer n k)) [
    | inl h ↦ let o = answer-in k q h in absurd cc
    | inr h ↦ let o = answer-out k q h in absurd cc
  ]

  answer_inside : (q : Answers) (m k : ℤ) (v : W) → answer n w q ≡ Asks m v → is_answer m k ≡ true
      → is_open (answer n w (q ++ k ∷ [])) ≡ true
  answer_inside q m k v e i = let p = answer_asks q m v e in rw (p.0, answer-in k [] (rw (← p.1) at i)) refl

  answer_outside : (q : Answers) (m k : ℤ) (v : W) → answer n w q ≡ Asks m v → is_answer m k ≡ false
      → answer n w (q ++ k ∷ []) ≡ Out m v
  answer_outside q m k v e o = let p = answer_asks q m v e in rw (p.0, ← p.1, ← p.2) (answer-out k [] (rw (← p.1) at o))

  answer_spends : (q rest : Answers) (x : ℤ) → answer n w q ≡ Done x rest → length q ≤ 1 + length rest
  answer_spends [] rest x e = let o = answer-none in absurd cc
  answer_spends (k ∷ q) rest x e = elim (cases_Bool (is_answer n k)) [
    | inl h ↦ let o = answer-in k q h in let s : q ≡ rest = cc in rw s (omega arith)
    | inr h ↦ let o = answer-out k q h in absurd cc
  ]

  pub answer_reader : IsReader (answer n w) 1
  answer_reader = record {
    begins = rw answer-none refl;
    done = answer_done;
    out = answer_out;
    inside = answer_inside;
    outside = answer_outside;
    positive = λ q m v e. let p = answer_asks q m v e in rw (← p.1) positive;
    few = λ q m v e. let p = answer_asks q m v e in rw p.0 (omega arith);
    spends = answer_spends;
  }

-- ---- one after the other

-- the second part takes at most `cost x` answers, where x is what the first part gave, and with those of the first
-- these are `total` at most
module _ {A B W : Type 0} (m : Answers → Outcome A W) (f : A → Answers → Outcome B W) (p total : ℕ) (cost : A
    → ℕ) (first : IsReader m p) (room : p ≤ total) (pays : (q rest : Answers) (x : A) → m q ≡ Done x rest
    → length q + cost x ≤ total + length rest) (second : (x : A) → IsReader (f x) (cost x)) where
  both-done : (q rest : Answers) (x : A) → m q ≡ Done x rest → go_on (m q) f ≡ f x rest
  both-done q rest x e = ap (λ v. go_on v f) e

  both-asks : (q : Answers) (n : ℤ) (w : W) → m q ≡ Asks n w → go_on (m q) f ≡ Asks n w
  both-asks q n w e = ap (λ v. go_on v f) e

  both-out : (q : Answers) (n : ℤ) (w : W) → m q ≡ Out n w → go_on (m q) f ≡ Out n w
  both-out q n w e = ap (λ v. go_on v f) e

  both_done : (q b rest : Answers) (x : B) → go_on (m q) f ≡ Done x rest → go_on (m (q ++ b)) f ≡ Done x (rest ++ b)
  both_done q b rest x e = by_cases (came (m q))
    where
      by_cases : Came (m q) → go_on (m (q ++ b)) f ≡ Done x (rest ++ b)
      by_cases (Gave y s h) =
          both-done (q ++ b) (s ++ b) y (first.done q b s y h)
          ∙ (second y).done s b rest x (sym (both-done q s y h) ∙ e)
      by_cases (Asked n w h) = let k = both-asks q n w h in absurd cc
      by_cases (Refused n w h) = let k = both-out q n w h in absurd cc

  both_out : (q b : Answers) (n : ℤ) (w : W) → go_on (m q) f ≡ Out n w → go_on (m (q ++ b)) f ≡ Out n w
  both_out q b n w e = by_cases (came (m q))
    where
      by_cases : Came (m q) → go_on (m (q ++ b)) f ≡ Out n w
      by_cases (Gave y s h) =
          both-done (q ++ b) (s ++ b) y (first.done q b s y h) ∙ (second y).out s b n w (sym (both-done q s y h) ∙ e)
      by_cases (Asked j v h) = let k = both-asks q j v h in absurd cc
      by_cases (Refused j v h) = both-out (q ++ b) j v (first.out q b j v h) ∙ sym (both-out q j v h) ∙ e

  -- it is open where the first part is
  both_open : (q : Answers) → is_open (m q) ≡ true → is_open (go_on (m q) f) ≡ true
  both_open q o = elim (open_is (m q) o) [
    | inl d ↦ rw (both-done q [] d.0 d.1) ((second d.0).begins)
    | inr d ↦ rw (both-asks q d.0 d.1 d.2) refl
  ]

  both_inside : (q : Answers) (n k : ℤ) (w : W) → go_on (m q) f ≡ Asks n w → is_answer n k ≡ true
      → is_open (go_on (m (q ++ k ∷ [])) f) ≡ true
  both_inside q n k w e i = by_cases (came (m q))
    where
      by_cases : Came (m q) → is_open (go_on (m (q ++ k ∷ [])) f) ≡ true
      by_cases (Gave y s h) =
          rw (both-done (q ++ k ∷ []) (s ++ k ∷ []) y (first.done q (k ∷ []) s y h))
          ((second y).inside s n k w (sym (both-done q s y h) ∙ e) i)
      by_cases (Asked j v h) = let t : Asks n w ≡ Asks j v = sym e ∙ both-asks q j v h in let same : n ≡ j = cc in
          both_open (q ++ k ∷ []) (first.inside q j k v h (rw same at i))
      by_cases (Refused j v h) = let t = both-out q j v h in absurd cc

  both_outside : (q : Answers) (n k : ℤ) (w : W) → go_on (m q) f ≡ Asks n w → is_answer n k ≡ false
      → go_on (m (q ++ k ∷ [])) f ≡ Out n w
  both_outside q n k w e o = by_cases (came (m q))
    where
      by_cases : Came (m q) → go_on (m (q ++ k ∷ [])) f ≡ Out n w
      by_cases (Gave y s h) =
          both-done (q ++ k ∷ []) (s ++ k ∷ []) y (first.done q (k ∷ []) s y h)
          ∙ (second y).outside s n k w (sym (both-done q s y h) ∙ e) o
      by_cases (Asked j v h) = let t : Asks n w ≡ Asks j v = sym e ∙ both-asks q j v h in let same : n ≡ j = cc in
          both-out (q ++ k ∷ []) j v (first.outside q j k v h (rw same at o)) ∙ cc
      by_cases (Refused j v h) = let t = both-out q j v h in absurd cc

  both_positive : (q : Answers) (n : ℤ) (w : W) → go_on (m q) f ≡ Asks n w → pos 1 ≤ℤ n
  both_positive q n w e = by_cases (came (m q))
    where
      by_cases : Came (m q) → pos 1 ≤ℤ n
      by_cases (Gave y s h) = (second y).positive s n w (sym (both-done q s y h) ∙ e)
      by_cases (Asked j v h) = let t : Asks n w ≡ Asks j v = sym e ∙ both-asks q j v h in let same : n ≡ j = cc in
          rw same (first.positive q j v h)
      by_cases (Refused j v h) = let t = both-out q j v h in absurd cc

  both_few : (q : Answers) (n : ℤ) (w : W) → go_on (m q) f ≡ Asks n w → length q < total
  both_few q n w e = by_cases (came (m q))
    where
      by_cases : Came (m q) → length q < total
      by_cases (Gave y s h) = let l = (second y).few s n w (sym (both-done q s y h) ∙ e) in let u = pays q s y h in
          omega arith
      by_cases (Asked j v h) = let l = first.few q j v h in omega arith
      by_cases (Refused j v h) = let t = both-out q j v h in absurd cc

  both_spends : (q rest : Answers) (x : B) → go_on (m q) f ≡ Done x rest → length q ≤ total + length rest
  both_spends q rest x e = by_cases (came (m q))
    where
      by_cases : Came (m q) → length q ≤ total + length rest
      by_cases (Gave y s h) = let l = (second y).spends s rest x (sym (both-done q s y h) ∙ e) in
          let u = pays q s y h in omega arith
      by_cases (Asked j v h) = let t = both-asks q j v h in absurd cc
      by_cases (Refused j v h) = let t = both-out q j v h in absurd cc

  pub then_reader_by : IsReader (λ a. go_on (m a) f) total
  then_reader_by = record {
    begins = both_open [] first.begins;
    done = both_done;
    out = both_out;
    inside = both_inside;
    outside = both_outside;
    positive = both_positive;
    few = both_few;
    spends = both_spends;
  }

-- the same where each second part takes as many answers at most
pub then_reader : {A B W : Type 0} (m : Answers → Outcome A W) (f : A → Answers → Outcome B W) (p r : ℕ) → IsReader m p
    → ((x : A) → IsReader (f x) r) → IsReader (λ a. go_on (m a) f) (p + r)
then_reader m f p r first each =
    then_reader_by m f p (p + r) (λ _. r) first (omega arith) (λ q rest x e. let u = first.spends q rest x e in
    omega arith) each

-- ---- values and errors

-- an error costs no answer
abbrev pub cost_unless_error : {A E : Type 0} → (A → ℕ) → Result A E → ℕ
cost_unless_error cost (Ok x) = cost x
cost_unless_error cost (Err e) = 0

module _ {A B E W : Type 0} (f : A → Answers → Outcome (Result B E) W) where
  unless_error_reader : (cost : A → ℕ) → ((x : A) → IsReader (f x) (cost x)) → (r : Result A E)
      → IsReader (unless_error f r) (cost_unless_error cost r)
  unless_error_reader cost each (Ok x) = each x
  unless_error_reader cost each (Err e) = failure_reader e 0

  -- what follows an error takes nothing; what follows a value x takes at most `cost x` answers
  pub bind_reader_by : (m : Answers → Outcome (Result A E) W) (p total : ℕ) (cost : A → ℕ) → IsReader m p → p ≤ total
      → ((q rest : Answers) (x : A) → m q ≡ Done (Ok x) rest → length q + cost x ≤ total + length rest)
      → ((x : A) → IsReader (f x) (cost x)) → IsReader (m >>= f) total
  bind_reader_by m p total cost first room pays each =
      then_reader_by m (unless_error f) p total (cost_unless_error cost) first room pays_result
      (unless_error_reader cost each)
    where
      pays_result : (q rest : Answers) (r : Result A E) → m q ≡ Done r rest
          → length q + cost_unless_error cost r ≤ total + length rest
      pays_result q rest (Ok x) e = pays q rest x e
      pays_result q rest (Err z) e = let u = first.spends q rest (Err z) e in omega arith

  pub bind_reader : (m : Answers → Outcome (Result A E) W) (p r : ℕ) → IsReader m p → ((x : A) → IsReader (f x) r)
      → IsReader (m >>= f) (p + r)
  bind_reader m p r first each =
      bind_reader_by m p (p + r) (λ _. r) first (omega arith) (λ q rest x e. let u = first.spends q rest (Ok x) e in
      omega arith) each

  -- what follows takes no answer
  pub bind_reader_alone : (m : Answers → Outcome (Result A E) W) (p : ℕ) → IsReader m p → ((x : A) → IsReader (f x) 0)
      → IsReader (m >>= f) p
  bind_reader_alone m p first each =
      bind_reader_by m p p (λ _. 0) first (omega arith) (λ q rest x e. let u = first.spends q rest (Ok x) e in
      omega arith) each

-- ---- other results

-- h gives a result and what accompanies a question another form, each by a function, and leaves answers and bounds
module _ {A B V W : Type 0} (h : Outcome A V → Outcome B W) (f : A → B) (g : V
    → W) (h-done : (x : A) (rest : Answers) → h (Done x rest) ≡ Done (f x) rest) (h-asks : (n : ℤ) (v : V)
    → h (Asks n v) ≡ Asks n (g v)) (h-out : (n : ℤ) (v : V) → h (Out n v) ≡ Out n (g v)) where
  -- what h made, it made of the same
  from_done : (u : Outcome A V) (y : B) (rest : Answers) → h u ≡ Done y rest → (x : A) × (u ≡ Done x rest) × (f x ≡ y)
  from_done (Done x s) y rest e = let d = h-done x s in let r : s ≡ rest = cc in (x, ap (Done x) r, cc)
  from_done (Asks n v) y rest e = let d = h-asks n v in absurd cc
  from_done (Out n v) y rest e = let d = h-out n v in absurd cc

  from_asks : (u : Outcome A V) (n : ℤ) (w : W) → h u ≡ Asks n w → (v : V) × (u ≡ Asks n v) × (g v ≡ w)
  from_asks (Done x s) n w e = let d = h-done x s in absurd cc
  from_asks (Asks m v) n w e = let d = h-asks m v in let r : m ≡ n = cc in (v, ap (λ k. Asks k v) r, cc)
  from_asks (Out m v) n w e = let d = h-out m v in absurd cc

  from_out : (u : Outcome A V) (n : ℤ) (w : W) → h u ≡ Out n w → (v : V) × (u ≡ Out n v) × (g v ≡ w)
  from_out (Done x s) n w e = let d = h-done x s in absurd cc
  from_out (Asks m v) n w e = let d = h-asks m v in absurd cc
  from_out (Out m v) n w e = let d = h-out m v in let r : m ≡ n = cc in (v, ap (λ k. Out k v) r, cc)

  still_open : (u : Outcome A V) → is_open u ≡ true → is_open (h u) ≡ true
  still_open u o = elim (open_is u o) [
    | inl d ↦ rw (d.1, h-done d.0 []) refl
    | inr d ↦ rw (d.2, h-asks d.0 d.1) refl
  ]

  pub map_reader : (m : Answers → Outcome A V) (most : ℕ) → IsReader m most → IsReader (λ a. h (m a)) most
  map_reader m most r = record {
    begins = still_open (m []) r.begins;
    done = λ q b rest y e. let d = from_done (m q) y rest e in
        ap h (r.done q b rest d.0 d.1) ∙ h-done d.0 (rest ++ b) ∙ ap (λ z. Done z (rest ++ b)) d.2;
    out = λ q b n w e. let d = from_out (m q) n w e in ap h (r.out q b n d.0 d.1) ∙ h-out n d.0 ∙ ap (Out n) d.2;
    inside = λ q n k w e i. let d = from_asks (m q) n w e in still_open (m (q ++ k ∷ [])) (r.inside q n k d.0 d.1 i);
    outside = λ q n k w e o. let d = from_asks (m q) n w e in
        ap h (r.outside q n k d.0 d.1 o) ∙ h-out n d.0 ∙ ap (Out n) d.2;
    positive = λ q n w e. let d = from_asks (m q) n w e in r.positive q n d.0 d.1;
    few = λ q n w e. let d = from_asks (m q) n w e in r.few q n d.0 d.1;
    spends = λ q rest y e. let d = from_done (m q) y rest e in r.spends q rest d.0 d.1;
  }

-- ---- greater bounds

pub wider_reader : {A W : Type 0} (m : Answers → Outcome A W) (most more : ℕ) → most ≤ more → IsReader m most
    → IsReader m more
wider_reader m most more l r = record {
  begins = r.begins;
  done = r.done;
  out = r.out;
  inside = r.inside;
  outside = r.outside;
  positive = r.positive;
  few = λ q n w e. let u = r.few q n w e in omega arith;
  spends = λ q rest x e. let u = r.spends q rest x e in omega arith;
}
