-- This file joins what is known of the request that the arguments make, or of why there is none.
-- Main lemmas: `decided_list` and `decided_clash`.
use Rattle.std.proofs.Common.{◌≡◌, ◌∙◌, ◌≤◌, ◌≤ℤ◌, ℕ, pos, List, [], ◌∷◌, Bool, true, false, Option}
use Rattle.std.proofs.Common.{Some, None, Result, Err, IfErr, IfOk, IfSome, ap, arith, refl, subst}
use Rattle.std.proofs.Common.{sym}
use Rattle.std.specs.Prelude.{option_map, unwrap_or}
use Rattle.std.specs.List.{list_all}
use Rattle.std.specs.Option.{ForSome}
use Rattle.std.specs.Result.{IsErrAnd}
use Rattle.std.proofs.lemmas.Bool.{and_parts, false≢true}
use Rattle.std.proofs.lemmas.Int.{ints}
use Rattle.std.proofs.lemmas.Result.{err_from_is_err_and}
use Rattle.ptb_text.specs.Statements.{IsMemorySize}
use Rattle.ptb_answers.specs.declared.rules.Rules.{Rules}
use Rattle.ptb_options.specs.declared.mistakes.MisspelledList.{MisspelledList}
use Rattle.ptb_options.specs.declared.request.Mode.{Mode}
use Rattle.ptb_options.specs.declared.request.Request.{Request}
use Rattle.ptb_options.specs.declared.usage.UsageFault.{UsageFault}
use Rattle.ptb_options.specs.declared.usage.UsageFault.TheVariants.{BadList, Memory}
use Rattle.ptb_options.specs.Options.{Requests, RequestsMode, HasBound, HasMemorySize, IsFirstMisspelled}
use Rattle.ptb_options.specs.Options.{Options, RefusesOptions, LacksMemory, clash, clashes, first_fault}
use Rattle.ptb_options.specs.Options.{IsRulesOf, default_memory, default_steps}
use Rattle.ptb_options.proofs.KeptLists.{first_misspelled}

-- ---- options that clash

abbrev is_clash : UsageFault → Bool
is_clash BadList = false
is_clash Memory = false
is_clash fault = true

-- the fault of a table is that of one of its rows
in_table : (rows : List (Bool × UsageFault)) (fault : UsageFault) → list_all (λ row. is_clash row.1) rows ≡ true
    → first_fault rows ≡ Some fault → is_clash fault ≡ true
in_table [] fault each found = absurd (cc)
in_table ((true, kept) ∷ rows) fault each found =
    let same : kept ≡ fault = cc in
    let first = and_parts (is_clash kept) _ each in
    ap is_clash (sym same) ∙ first.0
in_table ((false, kept) ∷ rows) fault each found =
    let first = and_parts (is_clash kept) _ each in
    in_table rows fault first.1 found

RefusesOptions-clash : (o : Options) (fault : UsageFault) → clash o ≡ Some fault → RefusesOptions o fault
RefusesOptions-clash o BadList e = absurd (false≢true (in_table (clashes o) BadList refl e))
RefusesOptions-clash o Memory e = absurd (false≢true (in_table (clashes o) Memory refl e))
RefusesOptions-clash o fault e = e

-- the size that is given, or the default
pub size_of : (kept : Option ℕ) (memory : ℕ) → ForSome kept IsMemorySize → memory ≡ unwrap_or kept 4096
    → IsMemorySize memory
size_of None memory h is = subst IsMemorySize (sym is) (omega arith, omega arith)
size_of (Some n) memory h is = subst IsMemorySize (sym is) (h n refl)

-- a bound that is given is at least 1
pub bound_in_range : (choose : Option ℕ) → ForSome choose (λ n. (1 ≤ n) × (n ≤ 32767))
    → IfSome (option_map pos choose) (λ n. pos 1 ≤ℤ n)
bound_in_range None h = tt
bound_in_range (Some n) h = let least = (h n refl).0 in omega (arith, ints)

-- the rules of options
abbrev rules_of : (o : Options) → HasBound o → Rules
rules_of o positive = record {
  limit = unwrap_or o.steps default_steps;
  choose = option_map pos o.choose;
  in_range = bound_in_range o.choose positive;
}

-- o are the options of the command line, and l is how the code has them
module _ (o l : Options) (same : l ≡ o) where
  -- what is known of the request, or of why there is none
  pub record IsDecided (result : Result Request UsageFault) : Type 0 where
    pub ok : IfOk result (Requests o)
    pub fault : IfErr result (RefusesOptions o)

  refused : (fault : UsageFault) → RefusesOptions l fault → IsDecided (Err fault)
  refused fault h = record { ok = tt; fault = subst (λ (x : Options). RefusesOptions x fault) same h }

  -- they clash
  pub decided_clash : (found : Option UsageFault) (fault : UsageFault) → found ≡ clash l → found ≡ Some fault
      → IsDecided (Err fault)
  decided_clash found fault told is = refused fault (RefusesOptions-clash l fault (sym told ∙ is))

  -- they don't
  module _ (found : Option UsageFault) (told : found ≡ clash l) (none : found ≡ None) where
    unclashed : clash l ≡ None
    unclashed = sym told ∙ none

    -- a list is misspelled
    pub decided_misspelled : (m : MisspelledList) → IsFirstMisspelled l m → IsDecided (Err BadList)
    decided_misspelled m h = refused BadList (unclashed, (m.option, first_misspelled l m h))

    -- memory is wanted for the items of a list
    pub decided_list : HasMemorySize o → HasBound o → (result : Result Request UsageFault) (fault : UsageFault)
        → IsErrAnd result (λ y. y ≡ fault) → LacksMemory l fault → IsDecided result
    decided_list size positive result fault is h =
        let e = err_from_is_err_and result is in
        let wanted : RefusesOptions l Memory = (
          record {
            rules = rules_of l (subst HasBound (sym same) positive);
            memory = unwrap_or l.memory default_memory;
            mode = h.1.0;
            in_range = size_of l.memory _ (subst HasMemorySize (sym same) size) refl;
          },
          record { clash = unclashed; rules = record { limit = refl; choose = refl }; memory = refl; mode = h.1.1 },
          h.1.2,
        )
        in
        subst IsDecided (sym (e.1 ∙ ap Err (e.2 ∙ h.0))) (refused Memory wanted)

    -- nothing is
    pub asked : (kept : Option ℕ) (rules : Rules) (memory : ℕ) (mode : Mode) (size : IsMemorySize memory)
        → kept ≡ l.memory → IsRulesOf l rules → memory ≡ unwrap_or kept 4096 → RequestsMode l mode
        → Requests o (record { rules = rules; memory = memory; mode = mode; in_range = size })
    asked kept rules memory mode size given ruled held by_mode =
        subst (λ (x : Options). Requests x (record { rules = rules; memory = memory; mode = mode; in_range = size }))
        same
        (record {
          clash = unclashed;
          rules = ruled;
          memory = held ∙ ap (λ (k : Option ℕ). unwrap_or k 4096) given;
          mode = by_mode;
        })
