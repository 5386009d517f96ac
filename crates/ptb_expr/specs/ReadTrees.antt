-- This file defines what was read of a part of the grammar, where something holds of its tree.
-- Main definitions: `ReadsPart` and `FailsPart`.
--     ReadsWhole t part i j Holds      the text t has the part from i to j, and Holds is true of its tree
--     ReadsMalformed t part i Holds    the text t has the part at i, malformed, and Holds is true of its tree
--     ReadsPart part a b Holds         the same as ReadsWhole, between two cursors
--     FailsPart part a Holds           the same as ReadsMalformed, at a cursor
--     ReadsSteps, FailsSteps           the same, where the steps of the tree were added
--     AddsCode old new x               the steps of the tree x were added
--     CutsCode old new x               they were added up to and with a fault
use Rattle.std.specs.Prelude.{◌≡◌, ℕ, List, ◌++◌}
use Rattle.ptb_text.specs.CursorState.{CursorState}
use Rattle.ptb_expr.specs.declared.step.Step.{Step}
use Rattle.ptb_expr.specs.Reading.{Whole, Malformed}
use Rattle.ptb_expr.specs.Spells.{Production, Spells}
use Rattle.ptb_expr.specs.Tree.{Tree}
use Rattle.ptb_expr.specs.TreeSteps.{code_of, IsCutAfterFault}

pub record ReadsWhole (t : List ℕ) (part : Production) (i j : ℕ) (Holds : Tree → Type 0) : Type 0 where
  pub tree : Tree
  pub spelled : Spells t part i (Whole tree j)
  pub holds : Holds tree

pub record ReadsMalformed (t : List ℕ) (part : Production) (i : ℕ) (Holds : Tree → Type 0) : Type 0 where
  pub tree : Tree
  pub spelled : Spells t part i (Malformed tree)
  pub holds : Holds tree

abbrev pub ReadsPart : Production → CursorState → CursorState → (Tree → Type 0) → Type 0
ReadsPart part a b Holds = (t : List ℕ) → a.text ≡ t → ReadsWhole t part a.place b.place Holds

abbrev pub FailsPart : Production → CursorState → (Tree → Type 0) → Type 0
FailsPart part a Holds = (t : List ℕ) → a.text ≡ t → ReadsMalformed t part a.place Holds

abbrev pub AddsCode : List Step → List Step → Tree → Type 0
AddsCode old new x = new ≡ old ++ code_of x

abbrev pub CutsCode : List Step → List Step → Tree → Type 0
CutsCode old new x = IsCutAfterFault (old ++ code_of x) new

abbrev pub ReadsSteps : Production → CursorState → CursorState → List Step → List Step → Type 0
ReadsSteps part a b old new = ReadsPart part a b (AddsCode old new)

abbrev pub FailsSteps : Production → CursorState → List Step → List Step → Type 0
FailsSteps part a old new = FailsPart part a (CutsCode old new)
