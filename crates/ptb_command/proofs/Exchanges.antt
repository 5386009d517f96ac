-- This file proves how exchanges with the devices are put together.
-- Main lemma: `exchanges_then`.
use Rattle.std.proofs.Common.{◌≡◌, ℕ, List, [], ◌∷◌, ◌++◌, length, Option, Some, None, ℤ, refl, sym}
use Rattle.std.proofs.Common.{ap, subst, ◌∙◌, arith, append_assoc, append-nil, length-append, inl}
use Rattle.std.proofs.Common.{inr, Bool}
use Rattle.std.specs.Prelude.{IsTrue}
use Rattle.std.specs.Io.KnownBytes.{Appends}
use Rattle.ptb_text.specs.Device.{HasFailed}
use Rattle.ptb_answers.specs.Choices.{with_answers}
use Rattle.ptb_text.specs.declared.device_fault.DeviceFault.{DeviceFault}
use Rattle.ptb_text.specs.declared.device_fault.DeviceFault.TheVariants as faults
use Rattle.ptb_command.specs.Devices.{ScreenState, Devices, Exchange, no_exchange, both_exchanges}
use Rattle.ptb_command.specs.Devices.{Shows, Exchanges, MayFollow, Refusal, Unanswered, Unread}
use Rattle.ptb_command.specs.Devices.{HasNoMemory, HasBroken}
use Rattle.ptb_answers.specs.declared.pause.Pause.TheVariants as pauses
use Rattle.ptb_expr.proofs.PublicLemmas.{with_answers_nil, with_answers_twice}

-- ---- bytes and lines

pub appends_nil : (a : Option (List ℕ)) → Appends a a []
appends_nil None = tt
appends_nil (Some x) = sym (append-nil x)

appends_then : (a b c : Option (List ℕ)) (xs ys : List ℕ) → Appends a b xs → Appends b c ys → Appends a c (xs ++ ys)
appends_then None b c xs ys p q = tt
appends_then (Some x) None c xs ys p q = absurd p
appends_then (Some x) (Some y) None xs ys p q = absurd q
appends_then (Some x) (Some y) (Some z) xs ys p q = q ∙ ap (λ l. l ++ ys) p ∙ append_assoc x xs ys

-- ---- exchanges

pub shows_nothing : (a : ScreenState) → Shows a a []
shows_nothing a = record { shown = appends_nil a.shown; same_borrow = refl; same_memory = refl }

pub shows_then : (a b c : ScreenState) (xs ys : List ℕ) → Shows a b xs → Shows b c ys → Shows a c (xs ++ ys)
shows_then a b c xs ys p q = record {
  shown = appends_then a.shown b.shown c.shown xs ys p.shown q.shown;
  same_borrow = q.same_borrow ∙ p.same_borrow;
  same_memory = q.same_memory ∙ p.same_memory;
}

pub exchanges_none : (d : Devices) → Exchanges d d no_exchange
exchanges_none d = record {
  grown = sym (with_answers_nil d.choices);
  shows = shows_nothing d.screen;
  unfailed = refl;
  given = sym (append-nil d.given);
  falls = omega arith;
  same_choose = refl;
}

pub exchanges_then : {c d e : Devices} {x y : Exchange} → Exchanges c d x → Exchanges d e y
    → Exchanges c e (both_exchanges x y)
exchanges_then {c = c} {d = d} {e = e} {x = x} {y = y} p q = record {
  grown = q.grown ∙ ap (with_answers y.answers y.bounds) p.grown
      ∙ with_answers_twice x.answers y.answers x.bounds y.bounds c.choices;
  shows = shows_then c.screen d.screen e.screen x.bytes y.bytes p.shows q.shows;
  unfailed = q.unfailed ∙ p.unfailed;
  given = q.given ∙ ap (λ l. l ++ y.given) p.given ∙ append_assoc c.given x.given y.given;
  falls = omega (arith, p.falls, q.falls, length-append x.given y.given);
  same_choose = q.same_choose ∙ p.same_choose;
}

pub no_lines : (xs ys : List (List ℕ)) → length xs ≡ 0 → ys ≡ [] → xs ++ ys ≡ []
no_lines [] ys e k = k
no_lines (x ∷ xs) ys e k = absurd (omega (arith, e))

-- what may follow an exchange may also follow what came before it, after the lines that the exchange gives
pub follows_before : {d e : Devices} {y : Exchange} → Exchanges d e y → (rest : List (List ℕ)) (choose : Option ℤ)
    → MayFollow e rest choose → MayFollow d (y.given ++ rest) choose
follows_before {d = d} {e = e} {y = y} q rest choose f = λ none.
    let h : (rest ≡ []) × (choose ≡ e.choose) = f (omega (arith, q.falls, none)) in
    (no_lines y.given rest (omega (arith, q.falls, none)) h.0, h.1 ∙ q.same_choose)

-- ---- failures

no_memory_from : (refused others : Refusal → Type 0) (a b : Bool) → a ≡ b → ((r : Refusal) → refused r → others r)
    → HasNoMemory refused b → HasNoMemory others a
no_memory_from refused others a b e more h = record {
  by = elim h.by [
    | inl t ↦ inl (subst IsTrue (sym e) t)
    | inr o ↦ inr (elim o [
      | inl x ↦ inl (x.0, more (Unanswered pauses.Memory x.0) x.1)
      | inr x ↦ inr (more (Unread faults.Memory) x)
    ])
  ];
}

-- what has broken since then has broken since before, where no write has failed between, and for whoever sees more
-- refusals
pub has_broken_from : (refused others : Refusal → Type 0) → ((r : Refusal) → refused r → others r)
    → (a b c : ScreenState) → b.failures ≡ a.failures → b.takes_memory ≡ a.takes_memory → (fault : DeviceFault)
    → HasBroken refused b c fault → HasBroken others a c fault
has_broken_from refused others more a b c same memory faults.Memory h =
    (no_memory_from refused others a.takes_memory b.takes_memory (sym memory) more h.0, h.1 ∙ same)
has_broken_from refused others more a b c same memory faults.Read h = (more (Unread faults.Read) h.0, h.1 ∙ same)
has_broken_from refused others more a b c same memory faults.TooLong h = (more (Unread faults.TooLong) h.0, h.1 ∙ same)
has_broken_from refused others more a b c same memory faults.Write h =
    (subst (λ (x : ℕ). HasFailed x c.failures) same h.0, omega (arith, same, h.1))
