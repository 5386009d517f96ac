-- This file defines how lists of answers are written.
-- Main definition: `SpellsList`.
--     IsAnswer k             a number that a list can have
--     IsItem m               an answer that a list can have, with its bound or without
--     SpellsNumber s k       the text s writes the number k
--     SpellsItem s m         the text s writes the item m
--     SpellsList s list      the text s writes the list
--     IsMisspelled s         the text s writes no list
--     SpellsAnswers s a      the text s writes a list of these answers, without bounds
--     HasNoAnswers s         the text s writes no list without bounds
--     IsListFault fault      a list alone can have this fault
--     IsListRead spells r    r is the result of reading a text that `spells` at most one list
use Rattle.std.specs.Prelude.{◌≡◌, ◌≢◌, ℕ, List, [], ℤ, pos, ◌≤ℤ◌, All, Result, Err, IfOk, IfErr}
use Rattle.std.specs.Fmt.{signed_decimal}
use Rattle.std.specs.Option.{ForSome}
use Rattle.ptb_answers.specs.declared.form.Marked.{Marked}
use Rattle.ptb_answers.specs.AnswerText.{item_text, spelling, unmarked}
use Rattle.ptb_options.specs.declared.usage.UsageFault.{UsageFault}
use Rattle.ptb_options.specs.declared.usage.UsageFault.TheVariants as usage

-- an answer is from 1 to 32767, and so is a bound
abbrev pub IsAnswer : ℤ → Type 0
IsAnswer k = (pos 1 ≤ℤ k) × (k ≤ℤ pos 32767)

abbrev pub IsItem : Marked → Type 0
IsItem m = IsAnswer m.answer × ForSome m.bound IsAnswer

-- it is written in decimals, with no zeros in front
abbrev pub SpellsNumber : List ℕ → ℤ → Type 0
SpellsNumber s k = IsAnswer k × (signed_decimal k ≡ s)

-- as reports write it: an answer alone, or an answer, `/` and its bound
abbrev pub SpellsItem : List ℕ → Marked → Type 0
SpellsItem s m = IsItem m × (item_text m ≡ s)

-- as reports write it: `none`, or its items with commas between them
abbrev pub SpellsList : List ℕ → List Marked → Type 0
SpellsList s list = All IsItem list × (spelling list ≡ s)

abbrev pub IsMisspelled : List ℕ → Type 0
IsMisspelled s = (list : List Marked) → SpellsList s list → ⊥

-- the answers of a run that is to be played are such a list, without bounds
abbrev pub SpellsAnswers : List ℕ → List ℤ → Type 0
SpellsAnswers s a = SpellsList s (unmarked a)

abbrev pub HasNoAnswers : List ℕ → Type 0
HasNoAnswers s = (a : List ℤ) → SpellsAnswers s a → ⊥

-- it is misspelled, or memory is wanted for its items
abbrev pub IsListFault : UsageFault → Type 0
IsListFault usage.BadList = Unit {0}
IsListFault usage.Memory = Unit {0}
IsListFault _ = ⊥

-- this is the result of reading a text that spells at most one list
pub record IsListRead {A : Type 0} (spells : List A → Type 0) (result : Result (List A) UsageFault) : Type 0 where
  pub ok : IfOk result spells
  pub bad : result ≡ Err usage.BadList → (list : List A) → spells list → ⊥
  -- memory is wanted only for a list that has items
  pub memory : result ≡ Err usage.Memory → (list : List A) × spells list × (list ≢ [])
  pub fault : IfErr result IsListFault
  pub one : (a b : List A) → spells a → spells b → a ≡ b
