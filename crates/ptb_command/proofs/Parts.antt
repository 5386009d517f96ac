-- This file proves the results of the parts of a command, one at a time.
-- Main lemma: `show_refines_part`.
use Rattle.std.proofs.Common.{◌≡◌, ℕ, Bool, true, List, [], ◌∷◌, ◌++◌, ℤ, refl, sym, ap, subst, ◌∙◌}
use Rattle.std.specs.Prelude.{if◌then◌else◌}
use Rattle.ptb_expr.specs.declared.fault.FaultKind.{FaultKind}
use Rattle.ptb_expr.specs.Tree.{Tree}
use Rattle.ptb_expr.specs.Reading.{Whole, item_of}
use Rattle.ptb_expr.specs.Value.{fault, or_fault}
use Rattle.ptb_command.specs.declared.stop.CommandStop.{CommandStop}
use Rattle.ptb_command.specs.Commands.{Part, Say, Width, Show, NewLine, Letter, Operand, Defect}
use Rattle.ptb_command.specs.Commands.{command_ends, defect, end_check}
use Rattle.ptb_command.specs.Actions.{Faults, Action, and_then, goes_on, halt, show, work_action}
use Rattle.ptb_command.specs.Act.{value_action, padded_decimal, width_of, newline, parts_action}
use Rattle.ptb_command.specs.Devices.{Refusal}
use Rattle.ptb_command.specs.Traces.{Trace, RefinesPart}
use Rattle.ptb_command.specs.Stops.{Stops, RefinesPartTo}
use Rattle.ptb_command.proofs.PartRefinement.{refines_part_refl, refines_part_then}
use Rattle.ptb_command.proofs.Stops.{Adds, parts_add, stops_after, stops_under}
use Rattle.ptb_command.proofs.Actions.{show_adds, then_adds, work_action_adds, refines_part_on}

-- ---- lists of parts

pub refines_part_parts : {o n : Trace} {g : Action (List ℤ)} (w : ℕ) (operands : List ℤ) (ps qs : List Part) → ps ≡ qs
    → RefinesPart o n (parts_action qs w operands) g → RefinesPart o n (parts_action ps w operands) g
refines_part_parts {o = o} {n = n} {g = g} w operands ps qs e m =
    subst (λ (x : List Part). RefinesPart o n (parts_action x w operands) g) (sym e) m

no_parts : (w : ℕ) (operands : List ℤ) → parts_action [] w operands ≡ goes_on operands
unfolding parts_action
no_parts w operands = refl

-- where no part is left, the operands are known
pub refines_part_end : {o n : Trace} {f : Action (List ℤ)} (w : ℕ) (operands : List ℤ)
    → RefinesPart o n f (parts_action [] w operands) → RefinesPart o n f (goes_on operands)
refines_part_end {o = o} {n = n} {f = f} w operands m =
    subst (λ (g : Action (List ℤ)). RefinesPart o n f g) (no_parts w operands) m

-- ---- before these parts, with this width and these operands so far

module _ (rest : List Part) (w : ℕ) (operands : List ℤ) where
  -- what is known of a part
  pub refines_part_part : {o n : Trace} {g : Action (List ℤ)} (p q : Part) → p ≡ q
      → RefinesPart o n (parts_action (q ∷ rest) w operands) g → RefinesPart o n (parts_action (p ∷ rest) w operands) g
  refines_part_part {o = o} {n = n} {g = g} p q e m =
      subst (λ (x : Part). RefinesPart o n (parts_action (x ∷ rest) w operands) g) (sym e) m

  pub stops_part : (refused : Refusal → Type 0) (o n : Trace) (p q : Part) → p ≡ q → (e : CommandStop)
      → Stops refused (RefinesPartTo o n (parts_action (q ∷ rest) w operands)) n.devices e
      → Stops refused (RefinesPartTo o n (parts_action (p ∷ rest) w operands)) n.devices e
  stops_part refused o n p q k e h =
      subst (λ (x : Part). Stops refused (RefinesPartTo o n (parts_action (x ∷ rest) w operands)) n.devices e) (sym k) h

  -- ---- bytes

  pub say_refines_part : {o n : Trace} (s : List ℕ) → RefinesPart o n (show s) (goes_on tt)
      → RefinesPart o n (parts_action (Say s ∷ rest) w operands) (parts_action rest w operands)
  unfolding parts_action
  say_refines_part s a = refines_part_on (λ u. parts_action rest w operands) a

  pub say_stops : (refused : Refusal → Type 0) (o n : Trace) (s : List ℕ) (e : CommandStop)
      → Stops refused (RefinesPartTo o n (show s)) n.devices e
      → Stops refused (RefinesPartTo o n (parts_action (Say s ∷ rest) w operands)) n.devices e
  unfolding parts_action
  say_stops refused o n s e h = stops_under refused o n (show s) (λ u. parts_action rest w operands)
      (λ u. parts_add rest w operands) e h

  pub newline_refines_part : {o n : Trace} → RefinesPart o n (show newline) (goes_on tt)
      → RefinesPart o n (parts_action (NewLine ∷ rest) w operands) (parts_action rest w operands)
  unfolding parts_action
  newline_refines_part a = refines_part_on (λ u. parts_action rest w operands) a

  pub newline_stops : (refused : Refusal → Type 0) (o n : Trace) (e : CommandStop)
      → Stops refused (RefinesPartTo o n (show newline)) n.devices e
      → Stops refused (RefinesPartTo o n (parts_action (NewLine ∷ rest) w operands)) n.devices e
  unfolding parts_action
  newline_stops refused o n e h = stops_under refused o n (show newline) (λ u. parts_action rest w operands)
      (λ u. parts_add rest w operands) e h

  -- ---- values that are shown

  show_next : ℤ → Action (List ℤ)
  show_next v = and_then (show (padded_decimal w v)) (λ u. parts_action rest w operands)

  show_next_adds : (v : ℤ) → Adds (show_next v)
  unfolding show_next
  show_next_adds v = then_adds (show (padded_decimal w v)) (λ u. parts_action rest w operands)
      (show_adds (padded_decimal w v)) (λ u. parts_add rest w operands)

  show_first : {o m : Trace} (x : Tree) (v : ℤ) → RefinesPart o m (value_action x) (goes_on v)
      → RefinesPart o m (parts_action (Show x ∷ rest) w operands) (show_next v)
  unfolding parts_action show_next
  show_first x v a = refines_part_on (λ v. and_then (show (padded_decimal w v)) (λ u. parts_action rest w operands)) a

  -- the code has the value v as u
  pub show_refines_part : {o m n : Trace} (x : Tree) (v u : ℤ) → u ≡ v → RefinesPart o m (value_action x) (goes_on v)
      → RefinesPart m n (show (padded_decimal w u)) (goes_on tt)
      → RefinesPart o n (parts_action (Show x ∷ rest) w operands) (parts_action rest w operands)
  unfolding show_next
  show_refines_part {m = m} {n = n} x v u e a b =
      refines_part_then (show_first x v a) (refines_part_on (λ u. parts_action rest w operands)
      (subst (λ (z : ℤ). RefinesPart m n (show (padded_decimal w z)) (goes_on tt)) e b))

  -- its value stops it
  pub show_value_stops : (refused : Refusal → Type 0) (o n : Trace) (x : Tree) (e : CommandStop)
      → Stops refused (RefinesPartTo o n (value_action x)) n.devices e
      → Stops refused (RefinesPartTo o n (parts_action (Show x ∷ rest) w operands)) n.devices e
  unfolding parts_action show_next
  show_value_stops refused o n x e h = stops_under refused o n (value_action x) show_next show_next_adds e h

  -- the screen stops it
  pub show_stops : (refused : Refusal → Type 0) {o m : Trace} (n : Trace) (x : Tree) (v u : ℤ) → u ≡ v
      → (e : CommandStop)
      → RefinesPart o m (value_action x) (goes_on v)
      → Stops refused (RefinesPartTo m n (show (padded_decimal w u))) n.devices e
      → Stops refused (RefinesPartTo o n (parts_action (Show x ∷ rest) w operands)) n.devices e
  unfolding show_next
  show_stops refused {m = m} n x v u k e a h =
      stops_after refused n (show_first x v a) e
      (stops_under refused m n (show (padded_decimal w v)) (λ u. parts_action rest w operands)
      (λ u. parts_add rest w operands) e
      (subst (λ (z : ℤ). Stops refused (RefinesPartTo m n (show (padded_decimal w z))) n.devices e) k h))

  -- ---- widths

  width_next : ℕ → ℤ → Action (List ℤ)
  width_next mark v = and_then (work_action (λ c. or_fault (width_of v) mark)) (λ u. parts_action rest u operands)

  width_next_adds : (mark : ℕ) (v : ℤ) → Adds (width_next mark v)
  unfolding width_next
  width_next_adds mark v = then_adds (work_action (λ c. or_fault (width_of v) mark)) (λ u. parts_action rest u operands)
      (work_action_adds (λ c. or_fault (width_of v) mark)) (λ u. parts_add rest u operands)

  width_first : {o m : Trace} (x : Tree) (mark : ℕ) (v : ℤ) → RefinesPart o m (value_action x) (goes_on v)
      → RefinesPart o m (parts_action (Width x mark ∷ rest) w operands) (width_next mark v)
  unfolding parts_action width_next
  width_first x mark v a = refines_part_on
      (λ v. and_then (work_action (λ c. or_fault (width_of v) mark)) (λ u. parts_action rest u operands)) a

  pub width_refines_part : {o m n : Trace} (x : Tree) (mark : ℕ) (v u : ℤ) → u ≡ v → (wide : ℕ)
      → RefinesPart o m (value_action x) (goes_on v)
      → RefinesPart m n (work_action (λ c. or_fault (width_of u) mark)) (goes_on wide)
      → RefinesPart o n (parts_action (Width x mark ∷ rest) w operands) (parts_action rest wide operands)
  unfolding width_next
  width_refines_part {m = m} {n = n} x mark v u k wide a b =
      refines_part_then (width_first x mark v a) (refines_part_on (λ u. parts_action rest u operands)
      (subst (λ (z : ℤ). RefinesPart m n (work_action (λ c. or_fault (width_of z) mark)) (goes_on wide)) k b))

  pub width_value_stops : (refused : Refusal → Type 0) (o n : Trace) (x : Tree) (mark : ℕ) (e : CommandStop)
      → Stops refused (RefinesPartTo o n (value_action x)) n.devices e
      → Stops refused (RefinesPartTo o n (parts_action (Width x mark ∷ rest) w operands)) n.devices e
  unfolding parts_action width_next
  width_value_stops refused o n x mark e h =
      stops_under refused o n (value_action x) (width_next mark) (width_next_adds mark) e h

  pub width_stops : (refused : Refusal → Type 0) {o m : Trace} (n : Trace) (x : Tree) (mark : ℕ) (v u : ℤ) → u ≡ v
      → (e : CommandStop) → RefinesPart o m (value_action x) (goes_on v)
      → Stops refused (RefinesPartTo m n (work_action (λ c. or_fault (width_of u) mark))) n.devices e
      → Stops refused (RefinesPartTo o n (parts_action (Width x mark ∷ rest) w operands)) n.devices e
  unfolding width_next
  width_stops refused {m = m} n x mark v u k e a h =
      stops_after refused n (width_first x mark v a) e
      (stops_under refused m n (work_action (λ c. or_fault (width_of v) mark)) (λ u. parts_action rest u operands)
      (λ u. parts_add rest u operands) e
      (subst (λ (z : ℤ). Stops refused (RefinesPartTo m n (work_action (λ c. or_fault (width_of z) mark))) n.devices e)
      k h))

  -- ---- values that the command uses

  pub operand_refines_part : {o n : Trace} (x : Tree) (v : ℤ) → RefinesPart o n (value_action x) (goes_on v)
      → RefinesPart o n (parts_action (Operand x ∷ rest) w operands) (parts_action rest w (operands ++ v ∷ []))
  unfolding parts_action
  operand_refines_part x v a = refines_part_on (λ v. parts_action rest w (operands ++ v ∷ [])) a

  pub operand_stops : (refused : Refusal → Type 0) (o n : Trace) (x : Tree) (e : CommandStop)
      → Stops refused (RefinesPartTo o n (value_action x)) n.devices e
      → Stops refused (RefinesPartTo o n (parts_action (Operand x ∷ rest) w operands)) n.devices e
  unfolding parts_action
  operand_stops refused o n x e h = stops_under refused o n (value_action x)
      (λ v. parts_action rest w (operands ++ v ∷ [])) (λ v. parts_add rest w (operands ++ v ∷ [])) e h

  pub letter_is : (x : ℕ) → parts_action (Letter x ∷ rest) w operands ≡ parts_action rest w operands
  unfolding parts_action
  letter_is x = refl

  -- ---- faults

  pub defect_refines_part : (o : Trace) (kind : FaultKind) (m : ℕ)
      → RefinesPart o o (parts_action (Defect kind m ∷ rest) w operands) (halt (Faults (fault kind m)))
  unfolding parts_action
  defect_refines_part o kind m = refines_part_refl o (halt (Faults (fault kind m)))

-- ---- ends

pub end_there : (t : List ℕ) (i : ℕ) → command_ends t i ≡ true → end_check t i ≡ Whole [] i
end_there t i e = ap (λ (b : Bool). if b then Whole [] i else defect i) e

pub end_refines_part : (o : Trace) (t : List ℕ) (i w : ℕ) (operands : List ℤ) → command_ends t i ≡ true
    → RefinesPart o o (parts_action (item_of (end_check t i)) w operands) (goes_on operands)
end_refines_part o t i w operands e =
    subst (λ (f : Action (List ℤ)). RefinesPart o o f (goes_on operands))
    (sym (ap (λ r. parts_action (item_of r) w operands) (end_there t i e) ∙ no_parts w operands))
    (refines_part_refl o (goes_on operands))
