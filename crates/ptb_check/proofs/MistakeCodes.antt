-- This file proves that the code of a command determines its mistake.
-- Main lemma: `code_is_mistake`.
use Rattle.std.proofs.Common.{◌≡◌, ◌∙◌, ℕ, ◌⊎◌, List, [], ◌∷◌, Option, Some, None, IsSome, sym, ap}
use Rattle.std.proofs.Common.{subst, refl, inl, inr}
use Rattle.std.specs.Option.{option_or}
use Rattle.ptb_text.specs.declared.word.Word.{Word}
use Rattle.ptb_text.specs.declared.word.Word.TheVariants.{GotoKw, GosubKw}
use Rattle.ptb_text.specs.Statements.{Statements}
use Rattle.ptb_expr.specs.declared.fault.Fault.{Fault}
use Rattle.ptb_expr.specs.declared.step.Step.{Step}
use Rattle.ptb_expr.specs.Reading.{Reading, Whole, Malformed}
use Rattle.ptb_expr.specs.Translation.{HasNoValue}
use Rattle.ptb_expr.specs.Tree.{Tree}
use Rattle.ptb_expr.specs.WrittenExpressions.{written_fault}
use Rattle.ptb_command.specs.declared.operation.Operation.{Operation}
use Rattle.ptb_command.specs.declared.operation.Operation.TheVariants as operations
use Rattle.ptb_command.specs.declared.operation.Expression.{Expression}
use Rattle.ptb_command.specs.declared.operation.Destination.{Destination}
use Rattle.ptb_command.specs.declared.operation.Destination.TheVariants as destinations
use Rattle.ptb_command.specs.Code.{Code, AreStepsAt, IsDestination, NamesOne, IsPart, IsOf}
use Rattle.ptb_command.specs.Code.{IsCodeOf, without_letter, without_its_letter}
use Rattle.ptb_command.specs.Commands.{Part, Assign, Width, Show, NewLine, Letter, Operand, parts_of, command_of}
use Rattle.ptb_command.specs.Items.{in_front}
use Rattle.ptb_check.specs.CodeMistakes.{expression_fail, destination_fail, code_mistake}
use Rattle.ptb_check.specs.Mistakes.{part_fault, parts_fault, part_number, last_number, jump_number}
use Rattle.ptb_check.specs.Mistakes.{jump_mistake, parts_mistake, command_mistake}
use Rattle.ptb_check.proofs.Readings.{Tells, some_first, some_second}

-- ---- one part and the others

last_front : (part : Part) (parts : List Part) → part_number part ≡ None
    → last_number (part ∷ parts) ≡ last_number parts
last_front part [] h = h
last_front part (other ∷ parts) h = refl

jump_front : (kind : Word) (part : Part) (parts : List Part) → part_number part ≡ None
    → jump_number kind (part ∷ parts) ≡ jump_number kind parts
jump_front GotoKw part parts h = last_front part parts h
jump_front GosubKw part parts h = last_front part parts h
jump_front _ part parts h = refl

jump_nowhere : (kind : Word) → jump_number kind [] ≡ None
jump_nowhere GotoKw = refl
jump_nowhere GosubKw = refl
jump_nowhere _ = refl

or_clean : (o q : Option Fault) → o ≡ None → option_or o q ≡ q
or_clean o q e = ap (λ v. option_or v q) e

module _ (p : Statements) (kind : Word) where
  -- a part without a fault
  mistake_front : (part : Part) (others : Reading (List Part)) → part_number part ≡ None → part_fault part ≡ None
      → parts_mistake p kind (in_front part others) ≡ parts_mistake p kind others
  mistake_front part (Whole parts j) h e = ap (jump_mistake p j) (jump_front kind part parts h)
  mistake_front part (Malformed parts) h e = or_clean (part_fault part) (parts_fault parts) e

  -- a part with one: it is malformed
  mistake_here : (part : Part) (others : Reading (List Part)) (f : Fault) → part_fault part ≡ Some f
      → Tells parts_fault (in_front part others) → parts_mistake p kind (in_front part others) ≡ Some f
  mistake_here part (Whole parts j) f e h = absurd (none_some (sym h ∙ ap (λ o. option_or o (parts_fault parts)) e))
    where
      none_some : None ≡ Some f → ⊥
      none_some d = cc d
  mistake_here part (Malformed parts) f e h = ap (λ o. option_or o (parts_fault parts)) e

others_tell : (part : Part) (others : Reading (List Part)) → part_fault part ≡ None
    → Tells parts_fault (in_front part others) → Tells parts_fault others
others_tell part (Whole parts j) e h = sym (or_clean (part_fault part) (parts_fault parts) e) ∙ h
others_tell part (Malformed parts) e h = subst IsSome (or_clean (part_fault part) (parts_fault parts) e) h

nothing_jumps : (p : Statements) (kind : Word) (left : Reading (List Part)) (end : ℕ) → left ≡ Whole [] end
    → None ≡ parts_mistake p kind left
nothing_jumps p kind left end e = sym (ap (parts_mistake p kind) e ∙ ap (jump_mistake p end) (jump_nowhere kind))

-- ---- the code

module _ (p : Statements) (t : List ℕ) (word : Word) (i : ℕ) (steps : List Step) where
  -- a part whose fault is f by its operation, and the operations after it
  part_then : (left : Reading (List Part)) (part : Part) (Stuck : Type 0) (o : Option Fault) (rest : List Operation)
      (P : Reading (List Part) → Type 0)
      → IsPart left part Stuck P → Tells parts_fault left → o ≡ part_fault part → (part_fault part ≡ None → Stuck → ⊥)
      → ((others : Reading (List Part)) → left ≡ in_front part others → P others → part_fault part ≡ None
      → code_mistake p steps rest ≡ parts_mistake p word (in_front part others))
      → option_or o (code_mistake p steps rest) ≡ parts_mistake p word left
  part_then left part Stuck o rest P at tells same free next = by_fault (part_fault part) refl
    where
      here : Tells parts_fault (in_front part at.others)
      here = subst (Tells parts_fault) at.is tells

      by_rest : part_fault part ≡ None → (P at.others ⊎ Stuck)
          → code_mistake p steps rest ≡ parts_mistake p word (in_front part at.others)
      by_rest e (inl others) = next at.others at.is others e
      by_rest e (inr stuck) = absurd (free e stuck)

      by_fault : (f : Option Fault) → part_fault part ≡ f
          → option_or o (code_mistake p steps rest) ≡ parts_mistake p word left
      by_fault (Some f) e =
          ap (λ v. option_or v (code_mistake p steps rest)) (same ∙ e)
          ∙ sym (mistake_here p word part at.others f e here) ∙ sym (ap (parts_mistake p word) at.is)
      by_fault None e =
          ap (λ v. option_or v (code_mistake p steps rest)) (same ∙ e) ∙ by_rest e at.rest
          ∙ sym (ap (parts_mistake p word) at.is)

  -- what is after a part
  after_part : (left : Reading (List Part)) (part : Part) (others : Reading (List Part)) (rest : List Operation)
      → part_number part ≡ None → Tells parts_fault left → left ≡ in_front part others → part_fault part ≡ None
      → (Tells parts_fault others → code_mistake p steps rest ≡ parts_mistake p word others)
      → code_mistake p steps rest ≡ parts_mistake p word (in_front part others)
  after_part left part others rest number tells is e code =
      code (others_tell part others e (subst (Tells parts_fault) is tells))
      ∙ sym (mistake_front p word part others number e)

  -- and after an operand of a malformed command
  after_operand : (left : Reading (List Part)) (x : Tree) (others : Reading (List Part)) (rest : List Operation)
      (parts : List Part)
      → others ≡ Malformed parts → Tells parts_fault left → left ≡ in_front (Operand x) others → written_fault x ≡ None
      → (Tells parts_fault others → code_mistake p steps rest ≡ parts_mistake p word others)
      → code_mistake p steps rest ≡ parts_mistake p word (in_front (Operand x) others)
  after_operand left x others rest parts m tells is e code =
      code (others_tell (Operand x) others e (subst (Tells parts_fault) is tells))
      ∙ ap (parts_mistake p word) m ∙ sym (or_clean (written_fault x) (parts_fault parts) e)
      ∙ sym (ap (λ r. parts_mistake p word (in_front (Operand x) r)) m)

  destination_tells : (d : Destination) (x : Tree) → IsDestination steps d x
      → destination_fail steps d ≡ written_fault x
  destination_tells (destinations.Letter letter) x h = sym (ap written_fault h)
  destination_tells (destinations.Element e mark) x h = h.2.evaluate.fail ∙ sym (ap written_fault h.1)
  destination_tells (destinations.Missing e) x h = h.evaluated.evaluate.fail

  missing_fails : (d : Destination) (x : Tree) → IsDestination steps d x → (NamesOne d → ⊥) → IsSome (written_fault x)
  missing_fails (destinations.Letter letter) x h n = absurd (n tt)
  missing_fails (destinations.Element e mark) x h n = absurd (n tt)
  missing_fails (destinations.Missing e) x h n = h.nothing.written

  either_same : (a b q r : Option Fault) → a ≡ b → IsSome b → option_or a q ≡ option_or b r
  either_same a (Some f) q r e s = ap (λ v. option_or v q) e
  either_same a None q r e s = cc s

  not_none : (o : Option Fault) → o ≡ None → IsSome o → ⊥
  not_none (Some f) e s = cc e
  not_none None e s = cc s

  set_tells : (d : Destination) (e : Expression) (x y : Tree) → IsDestination steps d x
      → (AreStepsAt steps e y ⊎ (NamesOne d → ⊥))
      → option_or (destination_fail steps d) (expression_fail steps e) ≡ option_or (written_fault x) (written_fault y)
  set_tells d e x y h (inl are) =
      ap (λ o. option_or o (expression_fail steps e)) (destination_tells d x h)
      ∙ ap (option_or (written_fault x)) are.evaluate.fail
  set_tells d e x y h (inr n) =
      either_same _ _ (expression_fail steps e) (written_fault y) (destination_tells d x h) (missing_fails d x h n)

  set_free : (d : Destination) (x y : Tree) → IsDestination steps d x
      → option_or (written_fault x) (written_fault y) ≡ None → (HasNoValue y ⊎ (NamesOne d → ⊥)) → ⊥
  set_free d x y h e (inl v) = not_none _ e (some_second (written_fault x) (written_fault y) v.written)
  set_free d x y h e (inr n) = not_none _ e (some_first (written_fault x) (written_fault y) (missing_fails d x h n))

  pub code_tells : (left : Reading (List Part)) (ops : List Operation) → IsOf t word i steps left ops
      → Tells parts_fault left → code_mistake p steps ops ≡ parts_mistake p word left
  unfolding IsOf
  code_tells left [] h tells = absurd h
  code_tells left (operations.Set d e ∷ rest) h tells =
      part_then left (Assign h.1 h.2) _ _ rest _ h.5 tells (set_tells d e h.1 h.2 h.3 h.4) (set_free d h.1 h.2 h.3)
      (λ others is k clean. after_part left (Assign h.1 h.2) others rest refl tells is clean (code_tells others rest k))
  code_tells left (operations.Say l ∷ rest) h tells =
      part_then left _ _ None rest _ h.2 tells refl (λ e s. s)
      (λ others is k clean. after_part left _ others rest refl tells is clean (code_tells others rest k))
  code_tells left (operations.Show e ∷ rest) h tells =
      part_then left (Show h.1) _ _ rest _ h.3 tells h.2.evaluate.fail (λ clean v. not_none _ clean v.written)
      (λ others is k clean. after_part left (Show h.1) others rest refl tells is clean (code_tells others rest k))
  code_tells left (operations.Width e mark ∷ rest) h tells =
      part_then left (Width h.1 mark) _ _ rest _ h.3 tells h.2.evaluate.fail (λ clean v. not_none _ clean v.written)
      (λ others is k clean. after_part left (Width h.1 mark) others rest refl tells is clean (code_tells others rest k))
  code_tells left (operations.NewLine ∷ rest) h tells =
      part_then left NewLine _ None rest _ h.1 tells refl (λ e s. s)
      (λ others is k clean. after_part left NewLine others rest refl tells is clean (code_tells others rest k))
  code_tells left (operations.Input prompt d ∷ rest) h tells =
      part_then left _ _ _ rest _ h.6 tells (destination_tells d h.1 h.3)
      (λ clean n. not_none _ clean (missing_fails d h.1 h.3 n))
      (λ others is k clean. after_part left _ others rest refl tells is clean (code_tells others rest k))
  code_tells left (operations.Discard e ∷ rest) h tells =
      part_then left (Operand h.1) _ _ rest _ h.3 tells h.2.evaluate.fail (λ clean v. not_none _ clean v.written)
      (λ others is k clean. after_operand left h.1 others rest k.0.parts k.0.is tells is clean
      (code_tells others rest k.1))
  code_tells left (operations.Fail kind mark ∷ rest) h tells = sym (ap (parts_mistake p word) h)
  code_tells left (operations.Done next ∷ rest) h tells = nothing_jumps p word left h.1 h.2
  code_tells left (operations.If e then_ ∷ rest) h tells =
      sym (ap (parts_mistake p word) h.3 ∙ ap (λ w. jump_mistake p then_ (jump_number w (Operand h.1 ∷ []))) h.0)
  code_tells left (operations.Goto e end ∷ rest) h tells =
      ap (jump_mistake p end) h.2.evaluate.number
      ∙ sym (ap (parts_mistake p word) h.3 ∙ ap (λ w. jump_mistake p end (jump_number w (Operand h.1 ∷ []))) h.0)
  code_tells left (operations.Gosub e end next ∷ rest) h tells =
      ap (jump_mistake p end) h.2.evaluate.number
      ∙ sym (ap (parts_mistake p word) h.3 ∙ ap (λ w. jump_mistake p end (jump_number w (Operand h.1 ∷ []))) h.0)
  code_tells left (operations.Return end ∷ rest) h tells = nothing_jumps p word left end h.1
  code_tells left (operations.For letter limit step end next ∷ rest) h tells =
      sym (ap (parts_mistake p word) h.6 ∙ ap (λ w. jump_mistake p end (jump_number w (Operand h.2 ∷ Operand h.3 ∷ [])))
      h.0)
  code_tells left (operations.EndTurn letter end next ∷ rest) h tells = nothing_jumps p word left end h.2
  code_tells left (operations.Stop ∷ rest) h tells = nothing_jumps p word left h.1 h.2
  code_tells left (operations.Remark ∷ rest) h tells = nothing_jumps p word left h.1 h.2

-- ---- a complete command

fault_without : (parts : List Part) → parts_fault (without_letter parts) ≡ parts_fault parts
fault_without [] = refl
fault_without (Letter x ∷ parts) = refl
fault_without (_ ∷ parts) = refl

jump_without : (kind : Word) (parts : List Part) → jump_number kind (without_letter parts) ≡ jump_number kind parts
jump_without kind [] = refl
jump_without kind (Letter x ∷ parts) = sym (jump_front kind (Letter x) parts refl)
jump_without kind (_ ∷ parts) = refl

tells_without : (r : Reading (List Part)) → Tells parts_fault r → Tells parts_fault (without_its_letter r)
tells_without (Whole parts e) h = fault_without parts ∙ h
tells_without (Malformed parts) h = subst IsSome (sym (fault_without parts)) h

mistake_without : (p : Statements) (kind : Word) (r : Reading (List Part))
    → parts_mistake p kind (without_its_letter r) ≡ parts_mistake p kind r
mistake_without p kind (Whole parts e) = ap (jump_mistake p e) (jump_without kind parts)
mistake_without p kind (Malformed parts) = fault_without parts

pub code_is_mistake : (p : Statements) (t : List ℕ) (word : Word) (i : ℕ) (code : Code)
    → Tells parts_fault (parts_of word t i) → IsCodeOf t word i code
    → code_mistake p code.steps code.operations ≡ command_mistake p (command_of word (parts_of word t i))
code_is_mistake p t word i code tells is =
    code_tells p t word i code.steps (without_its_letter (parts_of word t i)) code.operations is
    (tells_without (parts_of word t i) tells)
    ∙ mistake_without p word (parts_of word t i)
