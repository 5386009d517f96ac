-- This file proves that less is left to be done with each answer, and with each command.
-- Main lemmas: `work_gone` and `work_asked`.
use Rattle.std.proofs.Common.{◌≡◌, ℕ, zero, suc, ◌+◌, ◌-◌, ◌*◌, ◌<◌, ◌≤◌, List, [], ◌∷◌, ◌++◌}
use Rattle.std.proofs.Common.{length, refl, ap, sym, subst, ◌∙◌, inl, inr, arith, length-append}
use Rattle.std.specs.Prelude.{ℤ, pos}
use Rattle.std.proofs.lemmas.Nat.{mul-le}
use Rattle.ptb_text.specs.Statements.{StoredProgram}
use Rattle.ptb_answers.specs.Outcome.{Answers}
use Rattle.ptb_answers.specs.declared.rules.Rules.{Rules}
use Rattle.ptb_machine.specs.Questions.{most_answers}
use Rattle.ptb_command.specs.Configuration.{Configuration}
use Rattle.ptb_chances.specs.WaitingPlays.{WaitingPlay, Takes, SamePlace, Puts, PutsAnswers, after_answer}
use Rattle.ptb_chances.specs.WaitingPlays.{work_left, work_of, power, depth_left}

pub power_positive : (n : ℕ) → 1 ≤ power n
power_positive zero = omega arith
power_positive (suc n) = let some = power_positive n in omega (arith, some)

power_rises : (m k : ℕ) → power m ≤ power (m + k)
power_rises m zero = let same : m + 0 ≡ m = omega arith in subst (λ z. power m ≤ power z) (sym same) (omega arith)
power_rises m (suc k) =
    let some = power_rises m k in
    let more : m + suc k ≡ suc (m + k) = omega arith in
    let above : power m ≤ power (suc (m + k)) = omega (arith, some) in
    subst (λ z. power m ≤ power z) (sym more) above

pub power_less : (m n : ℕ) → m < n → power m < power n
power_less m zero less = absurd (omega (arith, less))
power_less m (suc n) less =
    let k : ℕ = n - m in
    let is : m + k ≡ n = omega (arith, less) in
    let rises : power m ≤ power n = subst (λ z. power m ≤ power z) is (power_rises m k) in
    let some = power_positive m in
    omega (arith, rises, some)

module _ (limit most : ℕ) where
  work_split : (prefix suffix : List WaitingPlay) (w : WaitingPlay)
      → work_left limit most (prefix ++ w ∷ suffix) ≡ work_of limit most w + work_left limit most (prefix ++ suffix)
  work_split [] suffix w = refl
  work_split (f ∷ prefix) suffix w = let rest = work_split prefix suffix w in omega (arith, rest)

  pub work_taken : (old new : List WaitingPlay) (w : WaitingPlay) → Takes old w new
      → work_left limit most old ≡ work_of limit most w + work_left limit most new
  work_taken old new w t = ap (work_left limit most) t.old_is ∙ work_split t.prefix t.suffix w
      ∙ ap (λ ws. work_of limit most w + work_left limit most ws) (sym t.new_is)

  pub work_some : (w : WaitingPlay) (ws : List WaitingPlay) → work_left limit most ws < work_left limit most (w ∷ ws)
  work_some w ws = let some = power_positive (depth_left limit most w) in omega (arith, some)

  same_depth : (v u : WaitingPlay) → SamePlace v u → depth_left limit most v ≡ depth_left limit most u
  same_depth v u same = ap (λ (m : Configuration). (limit - m.steps) * (most + 1) + (most - length v.plan)) same.machine
      ∙ ap (λ (plan : Answers). (limit - u.machine.steps) * (most + 1) + (most - length plan)) same.plan

  pub work_put : (old new : List WaitingPlay) (w : WaitingPlay) → Puts old w new
      → work_left limit most new ≤ work_of limit most w + work_left limit most old
  work_put old new w (inl t) = let e = work_taken new old w t in omega (arith, e)
  work_put old new w (inr x) =
      let before = work_taken old x.rest x.other x.before in
      let after = work_taken new x.rest x.both x.after in
      let same : work_of limit most x.other ≡ work_of limit most x.both =
      ap power (same_depth x.other x.both (x.joined).first) in
      omega (arith, before, after, same)

  -- fewer commands are left
  pub depth_less : (v w : WaitingPlay) → limit - v.machine.steps < limit - w.machine.steps
      → depth_left limit most v < depth_left limit most w
  depth_less v w less =
      let fewer : (limit - v.machine.steps + 1) * (most + 1) ≤ (limit - w.machine.steps) * (most + 1) =
      mul-le (limit - v.machine.steps + 1) (most + 1) (limit - w.machine.steps) (most + 1) (omega (arith, less))
      (omega arith) in
      let split : (limit - v.machine.steps + 1) * (most + 1) ≡ (limit - v.machine.steps) * (most + 1) + (most + 1) =
      omega arith in
      omega (arith, fewer, split)

  -- plays continued, to another state
  pub work_gone : (old new : List WaitingPlay) (w v : WaitingPlay) → Puts old v new
      → limit - v.machine.steps < limit - w.machine.steps → work_left limit most new < work_left limit most (w ∷ old)
  work_gone old new w v puts less =
      let put = work_put old new v puts in
      let below = power_less (depth_left limit most v) (depth_left limit most w) (depth_less v w less) in
      omega (arith, put, below)

  -- plays asked
  module _ (w : WaitingPlay) (n : ℤ) (planned : length w.plan < most) where
    depth_after : (k : ℤ) → depth_left limit most w ≡ suc (depth_left limit most (after_answer w n k))
    depth_after k =
        let longer : length (w.plan ++ k ∷ []) ≡ length w.plan + 1 = length-append w.plan (k ∷ []) in
        omega (arith, longer, planned)

    work_after : (k : ℤ) → work_of limit most w ≡ 65536 * work_of limit most (after_answer w n k)
    work_after k = ap power (depth_after k)

    work_answers : (k : ℕ) (old new : List WaitingPlay) → PutsAnswers w n k old new
        → 65536 * work_left limit most new ≡ k * work_of limit most w + 65536 * work_left limit most old
    work_answers zero old new puts = let same = ap (work_left limit most) puts in omega (arith, same)
    work_answers (suc k) old new puts =
        let before = work_answers k old puts.0 puts.1 in
        let one = work_taken new puts.0 (after_answer w n (pos (suc k))) puts.2 in
        let each = work_after (pos (suc k)) in
        omega (arith, before, one, each)

    pub work_asked : (k : ℕ) (old new : List WaitingPlay) → k < 65536 → PutsAnswers w n k old new
        → work_left limit most new < work_left limit most (w ∷ old)
    work_asked k old new few puts =
        let all = work_answers k old new puts in
        let some = power_positive (depth_left limit most w) in
        let part : (k + 1) * work_of limit most w ≤ 65536 * work_of limit most w =
        mul-le (k + 1) (work_of limit most w) 65536 (work_of limit most w) (omega (arith, few)) (omega arith) in
        let split : (k + 1) * work_of limit most w ≡ k * work_of limit most w + work_of limit most w = omega arith in
        omega (arith, all, some, part, split)

-- less is left than before plays were taken out, by whatever names
pub less_there : (p q : StoredProgram) (input lines : List (List ℕ)) (by r : Rules) (old mid new : List WaitingPlay)
    (w : WaitingPlay)
    → q ≡ p → lines ≡ input → r ≡ by → Takes old w mid
    → work_left r.limit (most_answers q lines r.limit) new < work_left r.limit (most_answers q lines r.limit) (w ∷ mid)
    → work_left by.limit (most_answers p input by.limit) new < work_left by.limit (most_answers p input by.limit) old
less_there p q input lines by r old mid new w program lines_are same_rules takes less =
    let limit : ℕ = by.limit in
    let most : ℕ = most_answers p input by.limit in
    let first = subst (λ (x : Rules). work_left x.limit (most_answers q lines x.limit) new < work_left x.limit
    (most_answers q lines x.limit) (w ∷ mid)) same_rules less in
    let second = subst (λ (ls : List (List ℕ)). work_left by.limit (most_answers q ls by.limit) new
    < work_left by.limit (most_answers q ls by.limit) (w ∷ mid)) lines_are first in
    let here : work_left limit most new < work_of limit most w + work_left limit most mid =
    subst (λ (x : StoredProgram). work_left by.limit (most_answers x input by.limit) new < work_left by.limit
    (most_answers x input by.limit) (w ∷ mid)) program second in
    let taken : work_left limit most old ≡ work_of limit most w + work_left limit most mid =
    work_taken limit most old mid w takes in
    omega (arith, here, taken)
