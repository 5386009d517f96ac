-- This file defines which argument is refused because it is no number in the range of its option.
-- Main definition: `IsWrongNumber`.
--     option_argument name            the argument that names an option
--     IsNumberOption argument o       the argument names the option o, which takes a number
--     IsWrongFor o value w            w is the value, which is no number in the range of o
--     NamesNoNumber argument          it names no option that takes a number
--     IsNumberRange range             the range is one of numbers
--     IsWrongValue argument next w    so is the value w that an argument gives to an option, or the next argument does
--     HasNoWrongValue argument next   neither of them does
--     MayBeOption arguments place     the argument at this place may be an option
--     IsWrongAt arguments place w     the argument at this place may be one, and w is its value
--     IsWrongNumber arguments w       w is the first such value among the arguments
--     HasNoWrongNumber arguments      there is none
use Rattle.std.specs.Prelude.{◌≡◌, ◌≢◌, ◌<◌, ◌≤◌, ◌⊎◌, ◌+◌, List, ◌++◌, ℕ, Option, Some, codes, false, slice_get}
use Rattle.std.specs.Borrow.{Bor}
use Rattle.std.specs.List.{Contains}
use Rattle.clap.specs.Words.{Accepts}
use Rattle.clap.specs.declared.builder.ValueParser.{ValueParser}
use Rattle.clap.specs.declared.builder.ValueParser.TheVariants.{Signed, Unsigned}
use Rattle.ptb_options.specs.CommandLine.{number_option, rules}
use Rattle.ptb_options.specs.declared.wrong_numbers.NumberOption.{NumberOption}
use Rattle.ptb_options.specs.declared.wrong_numbers.WrongNumber.{WrongNumber}

abbrev pub option_argument : List ℕ → List ℕ
option_argument name = codes "--" ++ name

pub record IsNumberOption (argument : List ℕ) (o : NumberOption) : Type 0 where
  pub named : argument ≡ option_argument o.name.now
  pub rule : Contains rules (number_option o.name.now o.range)

abbrev pub NamesNoNumber : List ℕ → Type 0
NamesNoNumber argument = (o : NumberOption) → IsNumberOption argument o → ⊥

abbrev pub IsNumberRange : ValueParser → Type 0
IsNumberRange (Signed low high) = Unit {0}
IsNumberRange (Unsigned low high) = Unit {0}
IsNumberRange _ = ⊥

pub record IsWrongFor (o : NumberOption) (value : Bor (List ℕ)) (w : WrongNumber) : Type 0 where
  pub is : w ≡ record { option = o; value = value }
  pub refused : Accepts false o.range value.now → ⊥

-- the value is after `=`, or in the next argument
abbrev pub IsGiven : Option (List ℕ) → Option (List ℕ) → List ℕ → List ℕ → Type 0
IsGiven argument next name value =
    (argument ≡ Some (option_argument name ++ codes "=" ++ value))
    ⊎ ((argument ≡ Some (option_argument name)) × (next ≡ Some value))

pub record IsWrongValue (argument next : Option (List ℕ)) (w : WrongNumber) : Type 0 where
  pub rule : Contains rules (number_option w.option.name.now w.option.range)
  pub given : IsGiven argument next w.option.name.now w.value.now
  pub refused : Accepts false w.option.range w.value.now → ⊥

abbrev pub HasNoWrongValue : Option (List ℕ) → Option (List ℕ) → Type 0
HasNoWrongValue argument next = (w : WrongNumber) → IsWrongValue argument next w → ⊥

-- the first argument is the program's name, and after `--` no argument is an option
pub record MayBeOption (arguments : List (List ℕ)) (index : ℕ) : Type 0 where
  pub after_name : 1 ≤ index
  pub before_dashes : (i : ℕ) → 1 ≤ i → i ≤ index → slice_get arguments i ≢ Some (codes "--")

pub record IsWrongAt (arguments : List (List ℕ)) (index : ℕ) (w : WrongNumber) : Type 0 where
  pub may_be : MayBeOption arguments index
  pub value : IsWrongValue (slice_get arguments index) (slice_get arguments (index + 1)) w

pub record IsWrongNumber (arguments : List (List ℕ)) (w : WrongNumber) : Type 0 where
  pub index : ℕ
  pub is : IsWrongAt arguments index w
  pub first : (i : ℕ) (other : WrongNumber) → i < index → IsWrongAt arguments i other → ⊥

abbrev pub HasNoWrongNumber : List (List ℕ) → Type 0
HasNoWrongNumber arguments = (index : ℕ) (w : WrongNumber) → IsWrongAt arguments index w → ⊥
