-- This file defines what is wrong with a text that should spell a list of answers.
-- Main definition: `IsListMistake`.
--     list_pieces s                  the texts between the commas of s
--     IsItemOf bounds w         the text w spells an item of a list with bounds, or without
--     IsListOf bounds s         the text s spells such a list
--     IsItemMistake bounds w m  the text w spells no such item, and why
--     IsListMistake bounds s m    the text s spells no such list, and m is its first faulty item
use Rattle.std.specs.Prelude.{◌≡◌, ℕ, ◌+◌, ◌==◌, List, ◌∷◌, ◌++◌, length, ℤ, All, IsSome}
use Rattle.std.specs.List.{slice_split}
use Rattle.ptb_answers.specs.declared.form.Marked.{Marked}
use Rattle.ptb_answers.specs.AnswerText.{without_bound}
use Rattle.ptb_options.specs.AnswerLists.{SpellsAnswers, SpellsItem, SpellsList}
use Rattle.ptb_options.specs.declared.mistakes.BoundRule.{BoundRule}
use Rattle.ptb_options.specs.declared.mistakes.BoundRule.TheVariants.{Allowed, Refused}
use Rattle.ptb_options.specs.declared.mistakes.ItemMistake.{ItemMistake}
use Rattle.ptb_options.specs.declared.mistakes.ItemMistake.TheVariants.{HasBound, NotANumber}
use Rattle.ptb_options.specs.declared.mistakes.ListMistake.{ListMistake}

abbrev pub list_pieces : List ℕ → List (List ℕ)
list_pieces s = slice_split (λ b. b == 44) s

abbrev pub IsItemOf : BoundRule → List ℕ → Type 0
IsItemOf Allowed w = (m : Marked) × SpellsItem w m
IsItemOf Refused w = (k : ℤ) × SpellsItem w (without_bound k)

abbrev pub IsListOf : BoundRule → List ℕ → Type 0
IsListOf Allowed s = (list : List Marked) × SpellsList s list
IsListOf Refused s = (a : List ℤ) × SpellsAnswers s a

-- an item with its bound is one, which some lists don't take
abbrev pub HasItemMistake : List ℕ → ItemMistake → Type 0
HasItemMistake w NotANumber = (m : Marked) → SpellsItem w m → ⊥
HasItemMistake w HasBound = (m : Marked) × SpellsItem w m × IsSome m.bound

pub record IsItemMistake (bounds : BoundRule) (w : List ℕ) (m : ItemMistake) : Type 0 where
  pub refused : IsItemOf bounds w → ⊥
  pub why : HasItemMistake w m

-- the items before it are right, and items are counted from 1
pub record IsListMistake (bounds : BoundRule) (s : List ℕ) (m : ListMistake) : Type 0 where
  pub not_list : IsListOf bounds s → ⊥
  pub before : List (List ℕ)
  pub after : List (List ℕ)
  pub place : list_pieces s ≡ before ++ m.text.now ∷ after
  pub items : All (IsItemOf bounds) before
  pub counted : m.item ≡ length before + 1
  pub mistake : IsItemMistake bounds m.text.now m.mistake
