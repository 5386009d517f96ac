-- This file defines what is before a part of the grammar, or alone in its place.
-- Main definition: `IsBefore`.
--     IsBefore t unary inner outer i j     between i and j is what makes `outer` of the part `inner` after it
--     IsFirst before                       this can be before the first product of a sum
--     sign_of before                       what is done with the first product; `Itself` for the others
--     room_before before                   how much room that needs
--     node_before before x y m             the tree of the product y with what is before it; x is left of an operator
--     KeepsBefore keeps before s t x       from s to t the tree x was kept, where an operator is before the product
--     BeginsFactor t start i j             between i and j is what a factor begins with
--     start_room start                     how much room is needed for it
use Rattle.std.specs.Prelude.{◌≡◌, ℕ, List}
use Rattle.ptb_expr.specs.declared.builder.Unary.{Unary}
use Rattle.ptb_expr.specs.declared.builder.Unary.TheVariants.{Itself, Negate}
use Rattle.ptb_expr.specs.declared.reader.BeforeProduct.{BeforeProduct}
use Rattle.ptb_expr.specs.declared.reader.BeforeProduct.TheVariants as befores
use Rattle.ptb_expr.specs.declared.fault.FaultKind.TheVariants.{How}
use Rattle.ptb_expr.specs.declared.reader.FactorStart.{FactorStart}
use Rattle.ptb_expr.specs.declared.reader.FactorStart.TheVariants as starts
use Rattle.ptb_expr.specs.Builders.{node_of, room_of}
use Rattle.ptb_expr.specs.Reading.{Reading, Whole, Malformed, node_over}
use Rattle.ptb_expr.specs.Spells.{Production, Factor, Paren, Spells}
use Rattle.ptb_expr.specs.Tree.{Tree, Num, Var, Size, Neg, Bin, Bad}

abbrev pub IsBefore : List ℕ → Unary → Production → Production → ℕ → ℕ → Type 0
IsBefore t unary inner outer i j =
    (r : Reading Tree) → Spells t inner j r → Spells t outer i (node_over (node_of unary) j r)

-- what is done with the first product
abbrev pub sign_of : {P : Type 0} → BeforeProduct P → Unary
sign_of befores.Sign = Negate
sign_of _ = Itself

abbrev pub room_before : {P : Type 0} → BeforeProduct P → ℕ
room_before befores.Nothing = 0
room_before _ = 1

-- the first product has no operator before it
abbrev pub IsFirst : {P : Type 0} → BeforeProduct P → Type 0
IsFirst befores.Nothing = Unit {0}
IsFirst befores.Sign = Unit {0}
IsFirst (befores.Operator op left) = ⊥

abbrev pub node_before : {P : Type 0} → BeforeProduct P → Tree → Tree → ℕ → Tree
node_before befores.Nothing x y m = y
node_before befores.Sign x y m = Neg y m
node_before (befores.Operator op left) x y m = Bin op x y m

-- between two states of what the reader makes
abbrev pub KeepsBefore : {S P : Type 0} → (S → S → P → Tree → Type 0) → BeforeProduct P → S → S → Tree → Type 0
KeepsBefore keeps befores.Nothing s t x = t ≡ s
KeepsBefore keeps befores.Sign s t x = t ≡ s
KeepsBefore keeps (befores.Operator op left) s t x = keeps s t left x

abbrev pub BeginsFactor : List ℕ → FactorStart → ℕ → ℕ → Type 0
BeginsFactor t (starts.Number v) i j = Spells t Factor i (Whole (Num v) j)
BeginsFactor t starts.TooBig i j = Spells t Factor i (Malformed (Bad How j))
BeginsFactor t (starts.Variable x) i j = Spells t Factor i (Whole (Var x) j)
BeginsFactor t starts.Size i j = Spells t Factor i (Whole Size j)
BeginsFactor t (starts.Paren unary) i j = IsBefore t unary Paren Factor i j

-- how much room is needed for it, or before the parentheses
abbrev pub start_room : FactorStart → ℕ
start_room (starts.Paren unary) = room_of unary
start_room _ = 1
