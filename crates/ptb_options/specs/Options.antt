-- This file defines what the arguments of the command line ask for.
-- Main definition: `options_of`.
--     entries_of m               what clap found, as its entries
--     Options, options_of e      what the options say by these entries
--     HasMemorySize o            --memory gives a size that a program can have
--     HasBound o                 --choose gives a bound that a question can have
--     IsRulesOf o rules          these are the rules of runs
--     form_of n                  the form of reports
--     clashes o                  which options don't go together, and the fault of each
--     clash o                    the fault of the first of them
--     default_steps, default_memory     the numbers of a request that gives none
--     Requests o r               the options ask for the request r
--     list_argument o x            the list of an option, as text
--     IsSpelled o x              it is a list, or is left out
--     IsMisspelledIn o x         it is no list
--     IsFirstMisspelled o m      m is what is wrong with the first of them that is no list
--     HasItems mode              a list of the mode has items
--     RefusesOptions o fault            why the options ask for no request
use Rattle.std.specs.Prelude.{◌≡◌, ◌≢◌, ◌≤◌, pos, ℤ, [], ◌∷◌, option_map, ℕ, ◌^◌, nat_lt, Bool}
use Rattle.std.specs.Prelude.{true, false, not, ◌&&◌, ◌||◌, ◌⊎◌, ◌==◌, if◌then◌else◌, List, length}
use Rattle.std.specs.Prelude.{Option, Some, None, is_some, unwrap_or, option_and_then, find}
use Rattle.std.specs.Prelude.{IsSomeAnd, codes}
use Rattle.std.specs.Option.{ForSome}
use Rattle.std.specs.Str.{all_ascii_digits, bytes_eq}
use Rattle.std.specs.Str.Parse.{digits_value, without_leading_plus}
use Rattle.clap.specs.Words.{Row, first_of, found_of, one_of, rows_of}
use Rattle.clap.specs.declared.parser.ArgMatches.{ArgMatches}
use Rattle.clap.specs.declared.parser.ValueSource.{ValueSource}
use Rattle.clap.specs.declared.parser.ValueSource.TheVariants.{CommandLine}
use Rattle.ptb_text.specs.Statements.{IsMemorySize}
use Rattle.ptb_answers.specs.declared.rules.Rules.{Rules}
use Rattle.ptb_answers.specs.declared.form.Form.{Form}
use Rattle.ptb_answers.specs.declared.form.Form.TheVariants.{One, Two}
use Rattle.ptb_answers.specs.declared.form.Marked.{Marked}
use Rattle.ptb_options.specs.AnswerLists.{SpellsList, SpellsAnswers, IsMisspelled, HasNoAnswers}
use Rattle.ptb_options.specs.ListMistakes.{IsListOf, IsListMistake}
use Rattle.ptb_options.specs.declared.mistakes.BoundRule.{BoundRule}
use Rattle.ptb_options.specs.declared.mistakes.BoundRule.TheVariants.{Allowed, Refused}
use Rattle.ptb_options.specs.declared.mistakes.ListOption.{ListOption}
use Rattle.ptb_options.specs.declared.mistakes.ListOption.TheVariants.{After, Answers, Under}
use Rattle.ptb_options.specs.declared.mistakes.MisspelledList.{MisspelledList}
use Rattle.ptb_options.specs.declared.mistakes.ListMistake.{ListMistake}
use Rattle.ptb_options.specs.declared.request.Mode.{Mode}
use Rattle.ptb_options.specs.declared.request.Mode.TheVariants as modes
use Rattle.ptb_options.specs.declared.request.Request.{Request}
use Rattle.ptb_options.specs.declared.usage.UsageFault.{UsageFault}
use Rattle.ptb_options.specs.declared.usage.UsageFault.TheVariants.{ListWithOther, CheckWithOther}
use Rattle.ptb_options.specs.declared.usage.UsageFault.TheVariants.{ChancesWithOther}
use Rattle.ptb_options.specs.declared.usage.UsageFault.TheVariants.{AfterWithoutAll}
use Rattle.ptb_options.specs.declared.usage.UsageFault.TheVariants.{FirstWithoutAll, FormWithoutAll}
use Rattle.ptb_options.specs.declared.usage.UsageFault.TheVariants.{UnderWithoutAll}
use Rattle.ptb_options.specs.declared.usage.UsageFault.TheVariants.{SharesWithoutAll}
use Rattle.ptb_options.specs.declared.usage.UsageFault.TheVariants.{SharesWithOther}
use Rattle.ptb_options.specs.declared.usage.UsageFault.TheVariants.{SampleWithoutSeed}
use Rattle.ptb_options.specs.declared.usage.UsageFault.TheVariants.{AnswersWithAll, SeedWithAll}
use Rattle.ptb_options.specs.declared.usage.UsageFault.TheVariants.{SeedWithAnswers, BadList}
use Rattle.ptb_options.specs.declared.usage.UsageFault.TheVariants.{Memory}

-- ---- the options

-- each option as the command line gives it, and None or false where it doesn't; lists are texts
pub record Options : Type 0 where
  pub steps : Option ℕ
  pub memory : Option ℕ
  pub choose : Option ℕ
  pub answers : Option (List ℕ)
  pub seed : Option ℕ
  pub all : Bool
  pub under : Option (List ℕ)
  pub after : Option (List ℕ)
  pub first : Option ℕ
  pub shares : Option ℕ
  pub sample : Option ℕ
  pub form : Option ℕ
  pub chances : Bool
  pub list : Bool
  pub check : Bool

-- an empty command line
abbrev pub no_options : Options
no_options = record {
  steps = None;
  memory = None;
  choose = None;
  answers = None;
  seed = None;
  all = false;
  under = None;
  after = None;
  first = None;
  shares = None;
  sample = None;
  form = None;
  chances = false;
  list = false;
  check = false;
}

-- what clap found for each option
abbrev pub entries_of : ArgMatches → List Row
entries_of m = rows_of (found_of m)

abbrev pub is_command_line : Option ValueSource → Bool
is_command_line (Some CommandLine) = true
is_command_line _ = false

-- whether an option is on the command line
abbrev pub is_given : List ℕ → List Row → Bool
is_given id entries = is_command_line (option_and_then (λ e. e.source) (find (λ e. bytes_eq e.id id) entries))

-- the number below 2 ^ bits that a text writes in digits, after a plus or not
abbrev pub number_in : ℕ → List ℕ → Option ℕ
number_in bits text =
    let digits = without_leading_plus text in
    if nat_lt 0 (length digits) && all_ascii_digits digits && nat_lt (digits_value 10 digits) (2 ^ bits)
    then Some (digits_value 10 digits) else None

-- the number that an option has, as a type of so many bits reads it
abbrev pub number_of : ℕ → List ℕ → List Row → Option ℕ
number_of bits id entries = option_and_then (number_in bits) (one_of id entries)

abbrev pub options_of : List Row → Options
options_of entries = record {
  steps = number_of 32 (codes "steps") entries;
  memory = number_of 16 (codes "memory") entries;
  choose = number_of 16 (codes "choose") entries;
  answers = first_of (codes "answers") entries;
  seed = number_of 64 (codes "seed") entries;
  all = is_given (codes "all") entries;
  under = first_of (codes "under") entries;
  after = first_of (codes "after") entries;
  first = number_of 64 (codes "first") entries;
  shares = number_of 8 (codes "shares") entries;
  sample = number_of 32 (codes "sample") entries;
  form = number_of 8 (codes "form") entries;
  chances = is_given (codes "chances") entries;
  list = is_given (codes "list") entries;
  check = is_given (codes "check") entries;
}

-- the size that --memory gives, if it is there, is one
abbrev pub HasMemorySize : Options → Type 0
HasMemorySize o = ForSome o.memory IsMemorySize

-- the bound that --choose gives, if it is there, is a number from 1 to 32767
abbrev pub HasBound : Options → Type 0
HasBound o = ForSome o.choose (λ n. (1 ≤ n) × (n ≤ 32767))

-- ---- what they ask for

-- what can be combined with none of --list, --check and --chances
abbrev pub says_which_runs : Options → Bool
says_which_runs o =
    o.all || is_some o.answers || is_some o.seed || is_some o.under || is_some o.after || is_some o.first
    || is_some o.form || is_some o.shares || is_some o.sample

-- what can be combined with neither --list nor --check
abbrev pub asks_for_runs : Options → Bool
asks_for_runs o = says_which_runs o || is_some o.choose || o.chances

-- which options don't go together, and the fault of each
abbrev pub clashes : Options → List (Bool × UsageFault)
clashes o =
    (o.list && (asks_for_runs o || o.check), ListWithOther)
    ∷ (o.check && asks_for_runs o, CheckWithOther)
    ∷ (o.chances && says_which_runs o, ChancesWithOther)
    ∷ (is_some o.after && not o.all, AfterWithoutAll)
    ∷ (is_some o.first && not o.all, FirstWithoutAll)
    ∷ (is_some o.form && not (o.all || is_some o.sample), FormWithoutAll)
    ∷ (is_some o.under && not o.all, UnderWithoutAll)
    ∷ (is_some o.shares && not o.all, SharesWithoutAll)
    ∷ (is_some o.shares && (is_some o.after || is_some o.first || is_some o.under), SharesWithOther)
    ∷ (is_some o.sample && not (is_some o.seed), SampleWithoutSeed)
    ∷ (is_some o.answers && o.all, AnswersWithAll)
    ∷ (is_some o.seed && o.all, SeedWithAll)
    ∷ (is_some o.seed && is_some o.answers, SeedWithAnswers)
    ∷ []

-- the fault of the first row whose condition holds
abbrev pub first_fault : List (Bool × UsageFault) → Option UsageFault
first_fault rows = option_map (λ row. row.1) (find (λ row. row.0) rows)

abbrev pub clash : Options → Option UsageFault
clash o = first_fault (clashes o)

-- a list that may be left out
abbrev pub SpellsIfGiven : Option (List ℕ) → Option (List Marked) → Type 0
SpellsIfGiven None None = Unit {0}
SpellsIfGiven None (Some a) = ⊥
SpellsIfGiven (Some s) None = ⊥
SpellsIfGiven (Some s) (Some a) = SpellsList s a

-- form 1 where it is asked for, otherwise form 2
abbrev pub form_of : Option ℕ → Form
form_of None = Two
form_of (Some n) = if n == 1 then One else Two

-- with none of --list, --check and --chances runs are shown or reported
pub record RunsIt (o : Options) : Type 0 where
  pub unlisted : o.list ≡ false
  pub unchecked : o.check ≡ false
  pub no_chances : o.chances ≡ false

-- without --all there are runs by a seed, if it is given, and otherwise one run by a list of answers
abbrev pub RequestsMode : Options → Mode → Type 0
RequestsMode o modes.List = o.list ≡ true
RequestsMode o modes.Check = (o.list ≡ false) × (o.check ≡ true)
RequestsMode o modes.Chances = (o.list ≡ false) × (o.check ≡ false) × (o.chances ≡ true)
RequestsMode o (modes.All under after first form) =
    RunsIt o × (o.all ≡ true) × (o.shares ≡ None) × SpellsIfGiven o.under under × SpellsIfGiven o.after after
    × (first ≡ o.first) × (form ≡ form_of o.form)
RequestsMode o (modes.Shares answers form) = RunsIt o × (o.all ≡ true) × (o.shares ≡ Some answers)
    × (form ≡ form_of o.form)
RequestsMode o (modes.Plain a) =
    RunsIt o × (o.all ≡ false) × (o.seed ≡ None) × SpellsAnswers (unwrap_or o.answers (codes "none")) a
RequestsMode o (modes.Seeded seed) = RunsIt o × (o.all ≡ false) × (o.seed ≡ Some seed) × (o.sample ≡ None)
RequestsMode o (modes.Sample seed runs form) =
    RunsIt o × (o.all ≡ false) × (o.seed ≡ Some seed) × (o.sample ≡ Some runs) × (form ≡ form_of o.form)

-- without --steps a run begins at most so many commands
abbrev pub default_steps : ℕ
default_steps = 10000

-- without --memory a program has so many bytes
abbrev pub default_memory : ℕ
default_memory = 4096

-- with --choose INPUT asks for an answer where no line is left, and without it the run ends there
pub record IsRulesOf (o : Options) (rules : Rules) : Type 0 where
  pub limit : rules.limit ≡ unwrap_or o.steps default_steps
  pub choose : rules.choose ≡ option_map pos o.choose

pub record Requests (o : Options) (r : Request) : Type 0 where
  pub clash : clash o ≡ None
  pub rules : IsRulesOf o r.rules
  pub memory : r.memory ≡ unwrap_or o.memory default_memory
  pub mode : RequestsMode o r.mode

-- ---- why they are a usage error

abbrev pub list_argument : Options → ListOption → Option (List ℕ)
list_argument o Under = o.under
list_argument o After = o.after
list_argument o Answers = o.answers

-- a run is played by numbers alone, and named with their bounds or without
abbrev pub bounds_for : ListOption → BoundRule
bounds_for Answers = Refused
bounds_for _ = Allowed

abbrev pub IsSpelled : Options → ListOption → Type 0
IsSpelled o x = ForSome (list_argument o x) (IsListOf (bounds_for x))

abbrev pub IsMisspelledIn : Options → ListOption → Type 0
IsMisspelledIn o x = IsSomeAnd (list_argument o x) (λ s. IsListOf (bounds_for x) s → ⊥)

-- what is wrong with a list that may be left out
abbrev pub HasMistake : BoundRule → Option (List ℕ) → ListMistake → Type 0
HasMistake bounds text m = IsSomeAnd text (λ s. IsListMistake bounds s m)

-- the lists are looked at in this order
abbrev pub EarlierSpelled : Options → ListOption → Type 0
EarlierSpelled o Under = Unit {0}
EarlierSpelled o After = IsSpelled o Under
EarlierSpelled o Answers = IsSpelled o Under × IsSpelled o After

abbrev pub IsFirstMisspelled : Options → MisspelledList → Type 0
IsFirstMisspelled o m = EarlierSpelled o m.option × HasMistake (bounds_for m.option)
    (list_argument o m.option) m.mistake

-- a list that may be left out is misspelled, or it has items and memory is wanted for them
abbrev pub RefusesIfGiven : Option (List ℕ) → UsageFault → Type 0
RefusesIfGiven text BadList = IsSomeAnd text IsMisspelled
RefusesIfGiven text Memory = (list : List Marked) × SpellsIfGiven text (Some list) × (list ≢ [])
RefusesIfGiven text fault = ⊥

abbrev pub RefusesAnswers : Option (List ℕ) → UsageFault → Type 0
RefusesAnswers text BadList = IsSomeAnd text HasNoAnswers
RefusesAnswers text Memory = (a : List ℤ) × SpellsAnswers (unwrap_or text (codes "none")) a × (a ≢ [])
RefusesAnswers text fault = ⊥

-- memory is taken for the items of lists alone
abbrev pub HasItems : Mode → Type 0
HasItems (modes.Plain a) = a ≢ []
HasItems (modes.Seeded seed) = ⊥
HasItems (modes.All under after first form) = IsSomeAnd under (λ u. u ≢ []) ⊎ IsSomeAnd after (λ a. a ≢ [])
HasItems (modes.Shares answers form) = ⊥
HasItems (modes.Sample seed runs form) = ⊥
HasItems modes.List = ⊥
HasItems modes.Check = ⊥
HasItems modes.Chances = ⊥

abbrev pub LacksMemory : Options → UsageFault → Type 0
LacksMemory o fault = (fault ≡ Memory) × ((mode : Mode) × RequestsMode o mode × HasItems mode)

-- lists are looked at where nothing else is wrong, and kept where all are spelled
abbrev pub RefusesOptions : Options → UsageFault → Type 0
RefusesOptions o BadList = (clash o ≡ None) × ((x : ListOption) × IsMisspelledIn o x)
RefusesOptions o Memory = (r : Request) × Requests o r × HasItems r.mode
RefusesOptions o fault = clash o ≡ Some fault
