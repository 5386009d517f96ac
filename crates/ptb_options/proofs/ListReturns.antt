-- This file proves the results at the exits of reading a list, from what its reader knows of each step.
-- Main lemma: `has_answers`.
use Rattle.std.proofs.Common.{◌≡◌, ◌≢◌, ◌∙◌, ap, sym, ℕ, Bool, true, false, List, [], ℤ, Option}
use Rattle.std.proofs.Common.{Some, None, Result, Ok, Err, IfErr, IfOk, subst}
use Rattle.std.specs.Prelude.{codes, map, nat_eq, ok_or}
use lib.Pointwise.{pointwise}
use Rattle.std.specs.Result.{IsErrAnd}
use Rattle.std.proofs.lemmas.List.Elements.{All-nil}
use Rattle.std.proofs.lemmas.Slice.Eq.{bytes_eq-Decides}
use Rattle.std.proofs.lemmas.Bool.{false≢true}
use Rattle.ptb_answers.specs.declared.form.Marked.{Marked}
use Rattle.ptb_answers.specs.AnswerText.{spelling, unmarked}
use Rattle.ptb_options.specs.AnswerLists.{IsItem, IsListFault, SpellsAnswers, SpellsList}
use Rattle.ptb_options.specs.declared.usage.UsageFault.{UsageFault}
use Rattle.ptb_options.specs.declared.usage.UsageFault.TheVariants.{BadList, Memory}

-- a list that was read is not refused
pub read_is_bad : {T X : Type 0} (x : T) → ◌≡◌ {A = Result T UsageFault} (Ok x) (Err BadList) → X
read_is_bad x e = absurd (cc)

-- nor is one refused as bad for lack of memory
pub memory_is_bad : {T X : Type 0} (r : Result T UsageFault) → IsErrAnd r (λ y. y ≡ Memory) → r ≡ Err BadList → X
memory_is_bad (Ok x) is e = absurd is
memory_is_bad (Err fault) is e = absurd (cc)

-- a list that was read does not lack memory
pub read_is_memory : {T X : Type 0} (x : T) → ◌≡◌ {A = Result T UsageFault} (Ok x) (Err Memory) → X
read_is_memory x e = absurd (cc)

-- and a refused one is none
pub refused_is_read : {T : Type 0} (P : T → Type 0) (r : Result T UsageFault) (fault : UsageFault)
    → IsErrAnd r (λ y. y ≡ fault) → IfOk r P
refused_is_read P (Ok x) fault is = absurd is
refused_is_read P (Err other) fault is = tt

-- it has the faults of a list alone
pub refused_as_list : {T : Type 0} (r : Result T UsageFault) (fault : UsageFault) → IsErrAnd r (λ y. y ≡ fault)
    → IsListFault fault → IfErr r IsListFault
refused_as_list (Ok x) fault is list = absurd is
refused_as_list (Err other) fault is list = subst IsListFault (sym is) list

-- a word that spells no item has the fault of a bad list
pub word_refused_as_list : {T U : Type 0} (found : Option T) (read : Result T UsageFault) (r : Result U UsageFault)
    (fault : UsageFault)
    → read ≡ ok_or found BadList → read ≡ Err fault → IsErrAnd r (λ y. y ≡ fault) → IfErr r IsListFault
word_refused_as_list None read r fault told is refused =
    let same : BadList ≡ fault = cc in
    refused_as_list r fault refused (subst IsListFault same tt)
word_refused_as_list (Some x) read r fault told is refused = absurd (cc)

-- a fault that is passed on
pub passed_on : {T U : Type 0} (r : Result T UsageFault) (fault kind : UsageFault) → IsErrAnd r (λ y. y ≡ fault)
    → r ≡ Err kind → ◌≡◌ {A = Result U UsageFault} (Err fault) (Err kind)
passed_on (Ok x) fault kind is e = absurd is
passed_on (Err other) fault kind is e = let same : other ≡ kind = cc in ap Err (sym is ∙ same)

pub none_spelled : (text : List ℕ) (same : Bool) → same ≡ pointwise nat_eq text (codes "none") → same ≡ true
    → SpellsList text []
none_spelled text same told is = (All-nil IsItem, sym ((bytes_eq-Decides text (codes "none")).0 (sym told ∙ is)))

-- `none` has no items
pub none_is_items : {X : Type 0} (f : X → Marked) (text : List ℕ) (same : Bool) (xs : List X)
    → same ≡ pointwise nat_eq text (codes "none") → same ≡ true → xs ≡ [] → SpellsList text (map f xs)
none_is_items {X} f text same xs told is empty =
    subst (λ (ys : List X). SpellsList text (map f ys)) (sym empty) (none_spelled text same told is)

-- a list whose text is not `none` has items
pub has_items : (text : List ℕ) (list : List Marked) → text ≢ codes "none" → SpellsList text list → list ≢ []
has_items text list some spells e = some (sym spells.1 ∙ ap spelling e)

pub has_answers : (text : List ℕ) (a : List ℤ) → text ≢ codes "none" → SpellsAnswers text a → a ≢ []
has_answers text a some spells e = has_items text (unmarked a) some spells (ap unmarked e)

-- a text that differs from `none`
pub some_text : (text : List ℕ) (same : Bool) → same ≡ pointwise nat_eq text (codes "none") → same ≡ false
    → text ≢ codes "none"
some_text text same told is e = false≢true (sym is ∙ told ∙ ap (λ (t : List ℕ). pointwise nat_eq t (codes "none")) e)
