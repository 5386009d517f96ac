-- This file proves which of the tool's options with numbers an argument names.
-- Main lemma: `unnamed_all`.
use Rattle.std.proofs.Common.{◌≡◌, ◌∙◌, ap, sym, refl, arith, below_more, List, ℕ, ◌+◌, ◌<◌, ◌≤◌}
use Rattle.std.proofs.Common.{length, get_or, map, take, Option, Some, None}
use Rattle.std.proofs.lemmas.List.{get_or-map, length-map, take-map}
use Rattle.clap.specs.declared.builder.ValueParser.{ValueParser}
use Rattle.clap.specs.Words.{Rule}
use Rattle.ptb_options.specs.CommandLine.{number_option, rule_by, rule_of_listed, rules}
use Rattle.ptb_options.specs.WrongNumbers.{IsNumberOption, NamesNoNumber, option_argument}
use Rattle.ptb_options.specs.declared.command_line.ListedArg.{ListedArg}
use Rattle.ptb_options.specs.declared.command_line.ArgKind.{ArgKind}
use Rattle.ptb_options.specs.declared.command_line.ArgKind.TheVariants as kinds
use Rattle.ptb_options.specs.declared.wrong_numbers.NumberOption.{NumberOption}

-- the argument doesn't name the option with a number whose rule is at this index
abbrev pub IsUnnamedAt : List ℕ → ℕ → Type 0
IsUnnamedAt argument k =
    (o : NumberOption) → get_or rules k (number_option o.name.now o.range) ≡ number_option o.name.now o.range → argument
    ≡ option_argument o.name.now → ⊥

abbrev pub NamesNoneBefore : List ℕ → ℕ → Type 0
NamesNoneBefore argument i = (k : ℕ) → k < i → IsUnnamedAt argument k

-- so many of the arguments have so many of the rules
pub so_far_more : (args : List ListedArg) (n i : ℕ) → map rule_of_listed (take i args) ≡ take i rules
    → map rule_of_listed args ≡ rules → map rule_of_listed (take n args) ≡ take n rules
so_far_more args n i so_far same = sym (take-map rule_of_listed n args) ∙ ap (take n) same

-- the option at an index of the arguments
pub found : (argument : List ℕ) (args : List ListedArg) (i : ℕ) (d : ListedArg) (range : ValueParser)
    → map rule_of_listed (take i args) ≡ take i rules → map rule_of_listed args ≡ rules → i < length args
    → (get_or args i d).kind ≡ kinds.Number range → argument ≡ option_argument (get_or args i d).name.now
    → IsNumberOption argument (record { name = (get_or args i d).name; range = range })
found argument args i d range so_far same within kind named =
    let rule = number_option (get_or args i d).name.now range in
    record {
      named = named;
      rule = (
        i,
        omega (arith, within, ap length same, length-map args rule_of_listed),
        ap (λ (rs : List Rule). get_or rs i rule) (sym same) ∙ get_or-map rule_of_listed args i d rule within
            ∙ ap (rule_by (get_or args i d).name.now) kind,
      );
    }

-- an argument that is not named by an option with a number, or is none, is not named by its rule
passed : (argument name : List ℕ) (kind : ArgKind)
    → ((range : ValueParser) → kind ≡ kinds.Number range → argument ≡ option_argument name → ⊥) → (o : NumberOption)
    → rule_by name kind ≡ number_option o.name.now o.range → argument ≡ option_argument o.name.now → ⊥
passed argument name (kinds.Number parser) told o e named =
    let names : name ≡ o.name.now = ap (λ (r : Rule). r.id) e in
    told parser refl (named ∙ ap option_argument (sym names))
passed argument name kinds.List told o e named =
    let parsers : ◌≡◌ {A = Option ValueParser} None (Some o.range) = ap (λ (r : Rule). r.parser) e in
    cc
passed argument name kinds.Flag told o e named =
    let parsers : ◌≡◌ {A = Option ValueParser} None (Some o.range) = ap (λ (r : Rule). r.parser) e in
    cc
passed argument name kinds.Operand told o e named =
    let parsers : ◌≡◌ {A = Option ValueParser} None (Some o.range) = ap (λ (r : Rule). r.parser) e in
    cc

module _ (argument : List ℕ) (args : List ListedArg) (i : ℕ) (d : ListedArg) (so_far : map rule_of_listed (take i args)
    ≡ take i rules) (same : map rule_of_listed args ≡ rules) (within : i < length args) where
  unnamed_more : ((range : ValueParser) → (get_or args i d).kind ≡ kinds.Number range
      → argument ≡ option_argument (get_or args i d).name.now → ⊥)
      → NamesNoneBefore argument i → NamesNoneBefore argument (i + 1)
  unnamed_more told before =
      below_more (IsUnnamedAt argument) i before
      (λ o e named.
      let at = ap (λ (rs : List Rule). get_or rs i (number_option o.name.now o.range)) (sym same)
      ∙ get_or-map rule_of_listed args i d (number_option o.name.now o.range) within in
      passed argument (get_or args i d).name.now (get_or args i d).kind told o (sym at ∙ e) named)

  -- so one more is none that is named: it has another name,
  pub other_name : (range : ValueParser) → (get_or args i d).kind ≡ kinds.Number range
      → (argument ≡ option_argument (get_or args i d).name.now → ⊥) → NamesNoneBefore argument i
      → NamesNoneBefore argument (i + 1)
  other_name range kind unnamed before = unnamed_more (λ _ _ named. unnamed named) before

  -- or takes no number
  pub no_number : ((range : ValueParser) → (get_or args i d).kind ≡ kinds.Number range → ⊥) → NamesNoneBefore argument i
      → NamesNoneBefore argument (i + 1)
  no_number none before = unnamed_more (λ range kind _. none range kind) before

-- where all were skipped, there is none
pub unnamed_all : (argument : List ℕ) (i : ℕ) → 16 ≤ i → NamesNoneBefore argument i → NamesNoNumber argument
unnamed_all argument i all before o h =
    let inside : h.rule.0 < 16 = h.rule.1 in
    before h.rule.0 (omega arith) o h.rule.2 h.named
