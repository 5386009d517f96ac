-- This file proves what the options with numbers have in common, one by one: each names itself, and has one range.
-- Main lemma: `one_range`.
use Rattle.std.proofs.Common.{◌≡◌, ◌∙◌, ap, sym, subst, refl, arith, Bool, ℕ, zero, suc, ◌<◌, List}
use Rattle.std.proofs.Common.{◌∷◌, ◌++◌, length, get_or, Option, Some, None, pos, eqb}
use Rattle.std.specs.Prelude.{codes, find, option_and_then}
use Rattle.std.specs.List.{Contains, after_first, before_first, position_or_len}
use Rattle.std.specs.Str.{bytes_eq}
use Rattle.std.proofs.lemmas.Option.{same_Some}
use Rattle.clap.specs.Words.{Rule}
use Rattle.clap.specs.declared.builder.ValueParser.{ValueParser}
use Rattle.clap.specs.declared.builder.ValueParser.TheVariants.{Signed, Unsigned}
use Rattle.ptb_options.specs.CommandLine.{number_option, rules as tool_rules}
use Rattle.ptb_options.specs.WrongNumbers.{IsNumberRange, option_argument}

-- what holds of each option with a number holds of every rule of one
module _ (P : List ℕ → ValueParser → Type 0)
    (steps : P (codes "steps") (Signed (pos 1) (pos 1000000000)))
    (memory : P (codes "memory") (Signed (pos 64) (pos 32767)))
    (choose : P (codes "choose") (Signed (pos 1) (pos 32767)))
    (seed : P (codes "seed") (Unsigned 0 4294967295))
    (first : P (codes "first") (Unsigned 1 1000000000))
    (shares : P (codes "shares") (Signed (pos 1) (pos 64)))
    (sample : P (codes "sample") (Unsigned 1 1000000000))
    (form : P (codes "form") (Signed (pos 1) (pos 2))) where
  same : (id : List ℕ) (parser : ValueParser) (name : List ℕ) (range : ValueParser) → P id parser
      → number_option id parser ≡ number_option name range → P name range
  same id parser name range p e =
      let ranges : parser ≡ range = same_Some parser range (ap (λ (r : Rule). r.parser) e) in
      subst (P name) ranges (subst (λ (n : List ℕ). P n parser) (ap (λ (r : Rule). r.id) e) p)

  other : (r : Rule) (name : List ℕ) (range : ValueParser) → r.parser ≡ None → r ≡ number_option name range
      → P name range
  other r name range none e =
      let parsers : r.parser ≡ Some range = ap (λ (x : Rule). x.parser) e in
      absurd cc

  at : (i : ℕ) (name : List ℕ) (range : ValueParser) → i < 16
      → get_or tool_rules i (number_option name range) ≡ number_option name range → P name range
  at zero name range lt e = same _ _ name range steps e
  at (suc zero) name range lt e = same _ _ name range memory e
  at (suc (suc zero)) name range lt e = same _ _ name range choose e
  at (suc (suc (suc zero))) name range lt e = other _ name range refl e
  at (suc (suc (suc (suc zero)))) name range lt e = same _ _ name range seed e
  at (suc (suc (suc (suc (suc zero))))) name range lt e = other _ name range refl e
  at (suc (suc (suc (suc (suc (suc zero)))))) name range lt e = other _ name range refl e
  at (suc (suc (suc (suc (suc (suc (suc zero))))))) name range lt e = other _ name range refl e
  at (suc (suc (suc (suc (suc (suc (suc (suc zero)))))))) name range lt e = same _ _ name range first e
  at (suc (suc (suc (suc (suc (suc (suc (suc (suc zero))))))))) name range lt e = same _ _ name range shares e
  at (suc (suc (suc (suc (suc (suc (suc (suc (suc (suc zero)))))))))) name range lt e = same _ _ name range sample e
  at (suc (suc (suc (suc (suc (suc (suc (suc (suc (suc (suc zero))))))))))) name range lt e = same _ _ name range form e
  at (suc (suc (suc (suc (suc (suc (suc (suc (suc (suc (suc (suc zero)))))))))))) name range lt e =
      other _ name range refl e
  at (suc (suc (suc (suc (suc (suc (suc (suc (suc (suc (suc (suc (suc zero))))))))))))) name range lt e =
      other _ name range refl e
  at (suc (suc (suc (suc (suc (suc (suc (suc (suc (suc (suc (suc (suc (suc zero)))))))))))))) name range lt e =
      other _ name range refl e
  at (suc (suc (suc (suc (suc (suc (suc (suc (suc (suc (suc (suc (suc (suc (suc zero))))))))))))))) name range lt e =
      other _ name range refl e
  at (suc (suc (suc (suc (suc (suc (suc (suc (suc (suc (suc (suc (suc (suc (suc (suc j)))))))))))))))) name range lt e =
      absurd (omega arith)

  pub each_number : (name : List ℕ) (range : ValueParser) → Contains tool_rules (number_option name range)
      → P name range
  each_number name range there = at there.0 name range there.1 there.2

-- its range is one of numbers
pub number_range : (name : List ℕ) (range : ValueParser) → Contains tool_rules (number_option name range)
    → IsNumberRange range
number_range = each_number (λ name range. IsNumberRange range) tt tt tt tt tt tt tt tt

-- an option has one range
abbrev range_of : List ℕ → Option ValueParser
range_of name = option_and_then (λ (r : Rule). r.parser) (find (λ (r : Rule). bytes_eq r.id name) tool_rules)

range_is : (name : List ℕ) (range : ValueParser) → Contains tool_rules (number_option name range)
    → range_of name ≡ Some range
range_is = each_number (λ name range. range_of name ≡ Some range) refl refl refl refl refl refl refl refl

pub one_range : (name other : List ℕ) (range another : ValueParser) → Contains tool_rules (number_option name range)
    → Contains tool_rules (number_option other another) → name ≡ other → range ≡ another
one_range name other range another there found e =
    same_Some range another (sym (range_is name range there) ∙ ap range_of e ∙ range_is other another found)

-- the argument that names it has no `=`, so that a value is after the first
abbrev pub is_equals : ℕ → Bool
is_equals b = eqb b 61

pub record IsCut (name : List ℕ) : Type 0 where
  pub inside : (value : List ℕ)
      → position_or_len is_equals (option_argument name ++ 61 ∷ value) < length (option_argument name ++ 61 ∷ value)
  pub before : (value : List ℕ) → before_first is_equals (option_argument name ++ 61 ∷ value) ≡ option_argument name
  pub after : (value : List ℕ) → after_first is_equals (option_argument name ++ 61 ∷ value) ≡ value
  pub alone : position_or_len is_equals (option_argument name) ≡ length (option_argument name)

pub cut : (name : List ℕ) (range : ValueParser) → Contains tool_rules (number_option name range) → IsCut name
cut = each_number (λ name range. IsCut name)
    (record { inside = λ v. omega arith; before = λ v. refl; after = λ v. refl; alone = refl })
    (record { inside = λ v. omega arith; before = λ v. refl; after = λ v. refl; alone = refl })
    (record { inside = λ v. omega arith; before = λ v. refl; after = λ v. refl; alone = refl })
    (record { inside = λ v. omega arith; before = λ v. refl; after = λ v. refl; alone = refl })
    (record { inside = λ v. omega arith; before = λ v. refl; after = λ v. refl; alone = refl })
    (record { inside = λ v. omega arith; before = λ v. refl; after = λ v. refl; alone = refl })
    (record { inside = λ v. omega arith; before = λ v. refl; after = λ v. refl; alone = refl })
    (record { inside = λ v. omega arith; before = λ v. refl; after = λ v. refl; alone = refl })
