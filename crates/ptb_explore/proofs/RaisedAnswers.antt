-- This file proves which answers the next run begins with.
-- Main lemmas: `next_plan` and `last_plan`.
use Rattle.std.proofs.Common.{◌≡◌, ℕ, zero, suc, ◌+◌, ◌<◌, ◌≤◌, List, [], ◌∷◌, ◌++◌, length, take}
use Rattle.std.proofs.Common.{drop, true, refl, ap, sym, ◌∙◌, arith, append_assoc, append-nil}
use Rattle.std.proofs.Common.{length-append}
use Rattle.std.specs.Prelude.{ℤ, pos, Some, None, ◌+ℤ◌, ◌≤ℤ◌, ◌<ℤ◌, int_le, slice_index_or}
use Rattle.std.proofs.lemmas.Bool.{and_from, and_parts}
use Rattle.std.specs.Ordering.{int_eq}
use Rattle.std.proofs.lemmas.Int.{ints}
use Rattle.std.proofs.lemmas.List.{length-take-le}
use Rattle.ptb_answers.specs.Outcome.{Answers, Outcome, Asks, IsReader, is_open, is_answer}
use Rattle.ptb_answers.specs.Outcome.{bound_of, bounds, bounds_after}
use Rattle.ptb_machine.specs.RunTree.{Front, Start, At, End, IsRun, IsNextRun, IsLast, Before, begins_with}
use Rattle.ptb_explore.specs.declared.plan.ListingPosition.{ListingPosition}
use Rattle.ptb_explore.specs.declared.plan.ListingPosition.TheVariants.{AtStart, AtRun, AtEnd}
use Rattle.ptb_explore.specs.Plans.{IsLastBelow, PlansNext, IsPosition, front_at, PlanEndsWith}
use Rattle.ptb_explore.proofs.Order.{before_from_differ, before_front, begins_from, begins_is}
use Rattle.ptb_explore.proofs.Tree.{run_asks}
use Rattle.ptb_explore.proofs.NextRuns.{AtTop, IsPlan, is_answer_is, between_none, ones_first, top_last}
use Rattle.ptb_explore.proofs.NextRuns.{left_after, left_begins, left_from}

-- a list at a place: what is before it, there and after it
pub split_at : {X : Type 0} (s : List X) (i : ℕ) (d : X) → i < length s
    → s ≡ take i s ++ slice_index_or s i d ∷ drop (i + 1) s
split_at [] i d l = absurd (omega arith)
split_at (x ∷ s) zero d l = refl
split_at (x ∷ s) (suc i) d l = let e = split_at s i d (omega arith) in let n : suc i + 1 ≡ suc (i + 1) = omega arith in
    rw n (ap (λ r. x ∷ r) e)

-- what begins with a list does so up to a place after it
begins_take : (under a b : Answers) (i : ℕ) → begins_with a under ≡ true → length under ≤ i
    → begins_with (take i a ++ b) under ≡ true
begins_take [] a b i h l = refl
begins_take (y ∷ under) [] b i h l = absurd cc
begins_take (y ∷ under) (x ∷ a) b zero h l = absurd (omega arith)
begins_take (y ∷ under) (x ∷ a) b (suc i) h l =
    let p = and_parts (int_eq x y) (begins_with a under) h in
    and_from (int_eq x y) (begins_with (take i a ++ b) under) p.0 (begins_take under a b i p.1 (omega arith))

pub take_front : {X : Type 0} (i : ℕ) (a b : List X) → i ≤ length a → take i (take i a ++ b) ≡ take i a
take_front zero a b l = refl
take_front (suc i) [] b l = absurd (omega arith)
take_front (suc i) (x ∷ a) b l = ap (λ r. x ∷ r) (take_front i a b (omega arith))

is_answer_of : (n k : ℤ) → pos 1 ≤ℤ k → k ≤ℤ n → is_answer n k ≡ true
is_answer_of n k l u = and_from (int_le (pos 1) k) (int_le k n) (grind (arith, ints)) (grind (arith, ints))

module _ {A W : Type 0} (play : Answers → Outcome A W) where
  -- the bound of the answer after q
  bound_there : (p q t : Answers) (x : ℤ)
      → slice_index_or (bounds_after play p (q ++ x ∷ t)) (length q) (pos 0) ≡ bound_of (play (p ++ q))
  bound_there p [] t x = ap (λ s. bound_of (play s)) (sym (append-nil p))
  bound_there p (y ∷ q) t x = bound_there (p ++ y ∷ []) q t x ∙ ap (λ s. bound_of (play s)) (append_assoc p (y ∷ []) q)

  -- answers that are at their bounds by place are at their bounds
  top_from : (p q t : Answers)
      → ((k : ℕ) → length q ≤ k → k < length (q ++ t)
      → slice_index_or (bounds_after play p (q ++ t)) k (pos 0) ≤ℤ slice_index_or (q ++ t) k (pos 0))
      → AtTop play (p ++ q) t
  top_from p (y ∷ q) t h =
      let r = top_from (p ++ y ∷ []) q t (λ k l u. h (suc k) (omega arith) (omega arith)) in
      rw (append_assoc p (y ∷ []) q) at r
  top_from p [] [] h = tt
  top_from p [] (x ∷ t) h =
      let r = top_from (p ++ x ∷ []) [] t (λ k l u. h (suc k) (omega arith) (omega arith)) in
      let first : bound_of (play p) ≤ℤ x = h 0 (omega arith) (omega arith) in
      rw append-nil (first, rw append-nil at r)

module _ {A W : Type 0} (play : Answers → Outcome A W) (most : ℕ) (reads : IsReader play most) where
  -- of the runs that begin with some answers, the first continues with the least
  pub start_plan : (under : Answers) → is_open (play under) ≡ true → IsPlan play under Start under
  start_plan under opens = record {
    opens = opens;
    next = λ ones o r. record {
      run = r;
      left = left_from under Start (under ++ ones) (begins_from under ones) refl;
      first = λ b s l h.
          let p = begins_is b under (left_begins under Start b l) in
          let run : IsRun play (under ++ p.0) = rw (← p.1) s in
          let below : Before (under ++ p.0) (under ++ ones) = rw (← p.1) h in
          ones_first play most reads under p.0 ones o run (before_front under p.0 ones below);
    };
  }

  raise_split : (q t : Answers) (x n : ℤ) (w : W) → IsRun play (q ++ x ∷ t) → play q ≡ Asks n w → pos 1 ≤ℤ x → x <ℤ n
      → AtTop play (q ++ x ∷ []) t → IsPlan play [] (At (q ++ x ∷ t)) (q ++ (x +ℤ pos 1) ∷ [])
  raise_split q t x n w r a low high top = record {
    opens = reads.inside q n (x +ℤ pos 1) w a (is_answer_of n (x +ℤ pos 1) (omega (arith, ints)) (omega (arith, ints)));
    next = λ ones o s. let same = append_assoc q ((x +ℤ pos 1) ∷ []) ones in record {
      run = s;
      left = rw same (before_from_differ q t ones x (x +ℤ pos 1) (omega (arith, ints)));
      first = λ b z lower upper. between_none play most reads [] q b t ones x top o z lower (rw same at upper);
    };
  }

  raise_from : (a q t : Answers) (x : ℤ) (i : ℕ) → a ≡ q ++ x ∷ t → length q ≡ i → IsRun play a
      → x <ℤ slice_index_or (bounds play a) i (pos 0)
      → ((k : ℕ) → i < k → k < length a → slice_index_or (bounds play a) k (pos 0) ≤ℤ slice_index_or a k (pos 0))
      → IsPlan play [] (At a) (q ++ (x +ℤ pos 1) ∷ [])
  raise_from a q t x i e n r low top =
      let run : IsRun play (q ++ x ∷ t) = rw e at r in
      let asks = run_asks play most reads q t x run in
      let within = is_answer_is asks.0 x asks.3 in
      let b : slice_index_or (bounds play (q ++ x ∷ t)) (length q) (pos 0) ≡ asks.0 =
      bound_there play [] q t x ∙ ap bound_of asks.2 in
      let lower : x <ℤ slice_index_or (bounds play (q ++ x ∷ t)) (length q) (pos 0) = rw (e, ← n) at low in
      let s : (q ++ x ∷ []) ++ t ≡ q ++ x ∷ t = append_assoc q (x ∷ []) t in
      let upper : (k : ℕ) → length (q ++ x ∷ []) ≤ k → k < length ((q ++ x ∷ []) ++ t) → slice_index_or
      (bounds_after play [] ((q ++ x ∷ []) ++ t)) k (pos 0) ≤ℤ slice_index_or ((q ++ x ∷ []) ++ t) k (pos 0) =
      (λ k l u. rw (s ∙ sym e)
      (top k (omega (arith, length-append q (x ∷ []))) (omega (arith, ap length (s ∙ sym e))))) in
      rw e (raise_split q t x asks.0 asks.1 run asks.2 within.0 (rw b at lower)
      (top_from play [] (q ++ x ∷ []) t upper))

  -- the answer at i is below its bound and those after it are not: the next run raises it by one
  pub raise_plan : (a : Answers) (i : ℕ) → IsRun play a → i < length a
      → slice_index_or a i (pos 0) <ℤ slice_index_or (bounds play a) i (pos 0)
      → ((k : ℕ) → i < k → k < length a → slice_index_or (bounds play a) k (pos 0) ≤ℤ slice_index_or a k (pos 0))
      → IsPlan play [] (At a) (take i a ++ (slice_index_or a i (pos 0) +ℤ pos 1) ∷ [])
  raise_plan a i r l low top = raise_from a (take i a) (drop (i + 1) a) (slice_index_or a i (pos 0)) i
      (split_at a i (pos 0) l) (length-take-le i a (omega arith)) r low top

  -- what is raised continues with the answers in front
  raise_prefixed : (under a : Answers) (i : ℕ) → begins_with a under ≡ true → length under ≤ i → (y : ℤ)
      → IsPlan play [] (At a) (take i a ++ y ∷ []) → IsPlan play under (At a) (take i a ++ y ∷ [])
  raise_prefixed under a i b f y p = record {
    opens = p.opens;
    next = λ ones o r.
        let n = p.next ones o r in
        let s : (take i a ++ y ∷ []) ++ ones ≡ take i a ++ y ∷ ones = append_assoc (take i a) (y ∷ []) ones in
        record {
          run = n.run;
          left = left_from under (At a) _ (rw s (begins_take under a (y ∷ ones) i b f)) n.left;
          first = λ c z h. n.first c z (left_after under (At a) c h);
        };
  }

  -- where no answer after those of `under` is below its bound, no run that begins with these is after
  top_plan : (under a : Answers) → IsRun play a → begins_with a under ≡ true
      → ((k : ℕ) → length under ≤ k → k < length a
      → slice_index_or (bounds play a) k (pos 0) ≤ℤ slice_index_or a k (pos 0))
      → IsLast play under (At a)
  top_plan under a r b top c s h =
      let p = begins_is a under b in
      let q = begins_is c under (left_begins under (At a) c h) in
      let later : Before (under ++ p.0) (under ++ q.0) = rw (← p.1, ← q.1) (left_after under (At a) c h) in
      let run : IsRun play (under ++ q.0) = rw (← q.1) s in
      let at : (k : ℕ) → length under ≤ k → k < length (under ++ p.0)
      → slice_index_or (bounds_after play [] (under ++ p.0)) k (pos 0) ≤ℤ slice_index_or (under ++ p.0) k (pos 0) =
      rw (← p.1) top in
      top_last play most reads under q.0 p.0 (top_from play [] under p.0 at) run (before_front under p.0 q.0 later)

  -- ---- the plan that follows where a listing is

  pub next_plan : (under : Answers) (position : ListingPosition) (answers plan : Answers) (bounded : List ℤ) (i : ℕ)
      → IsPosition play under position answers bounded → PlansNext under position answers bounded plan (Some i)
      → IsPlan play under (front_at position answers) plan
  next_plan under AtStart answers plan bounded i s p = rw p.1 (start_plan under s)
  next_plan under AtRun answers plan bounded i s p =
      let last : IsLastBelow (length under) answers (bounds play answers) i = rw s.1 at p.0 in
      rw p.1 (raise_prefixed under answers i s.2 last.following _
      (raise_plan answers i s.0 last.within last.below last.last))
  next_plan under AtEnd answers plan bounded i s p = absurd p

  pub last_plan : (under : Answers) (position : ListingPosition) (answers plan : Answers) (bounded : List ℤ)
      → IsPosition play under position answers bounded → PlansNext under position answers bounded plan None
      → IsLast play under (front_at position answers)
  last_plan under AtStart answers plan bounded s p = absurd p
  last_plan under AtRun answers plan bounded s p = top_plan under answers s.0 s.2 (rw s.1 at p)
  last_plan under AtEnd answers plan bounded s p = λ b r h. let n = left_after under End b h in absurd cc

  -- a plan that was played to its end is the next run
  pub plan_ends : (under : Answers) (front : Front) (plan answers : Answers) (bounded : List ℤ) (result : A)
      → IsPlan play under front plan → PlanEndsWith play plan answers bounded result
      → IsNextRun play under front answers
  plan_ends under front plan answers bounded result p e =
      let run : IsRun play (plan ++ e.ones) = rw (← e.answers_are, e.outcome) refl in
      rw e.answers_are (p.next e.ones e.all_ones run)

-- the plan begins with the first answers of the run
pub plan_begins : (under answers plan : Answers) (bounded : List ℤ) (i : ℕ)
    → PlansNext under AtRun answers bounded plan (Some i) → (i ≤ length answers) × (take i plan ≡ take i answers)
plan_begins under answers plan bounded i p =
    let u = p.0.within in
    (omega arith, ap (take i) p.1 ∙ take_front i answers (_ ∷ []) (omega arith))
