-- This file proves the result of showing bytes.
-- Main lemma: `shown`.
use Rattle.std.proofs.Common.{◌≡◌, ℕ, zero, suc, ◌+◌, ◌-◌, ◌≤◌, ◌<◌, Bool, List, [], ◌∷◌, ◌++◌, length}
use Rattle.std.proofs.Common.{take, drop, Result, Err, refl, sym, ap, subst, ◌∙◌, append-nil}
use Rattle.std.proofs.Common.{append_assoc, arith, length-append, take-append-drop, inl, ℤ, pos}
use Rattle.std.proofs.Common.{negsuc, Ok, FitsSigned, w16}
use native.Mathlib.Decide.{dec_lt}
use Rattle.std.proofs.lemmas.Bool.{le-leb, lt-leb}
use Rattle.std.proofs.Math.Dec.{eqb-suc-zero}
use Rattle.std.proofs.lemmas.List.{get_or-append-add, take-replicate, length-replicate, replicate-append-replicate}
use Rattle.std.proofs.lemmas.List.{drop-take, take_rest}
use Rattle.std.proofs.lemmas.Fmt.{length-decimal-le}
use Rattle.std.proofs.Math.Seq.{drop-append_seam, take-append_seam, take-append-add}
use Rattle.std.specs.Prelude.{◌==◌, ◌||◌, if◌then◌else◌, slice_index, IsErrOf, IsTrue, unsigned_abs, replicate}
use Rattle.ptb_text.specs.Device.{HasFailed, TakesSome}
use Rattle.ptb_expr.specs.Store.{Cells}
use Rattle.ptb_text.specs.declared.device_fault.DeviceFault.{DeviceFault}
use Rattle.ptb_text.specs.declared.device_fault.DeviceFault.TheVariants as screens
use Rattle.ptb_devices.specs.Screens.{IsScreenFault}
use Rattle.ptb_command.specs.declared.ending.Ending.TheVariants as endings
use Rattle.ptb_command.specs.Actions.{Ends, Halts, goes_on, show}
use Rattle.std.specs.Fmt.{signed_decimal}
use Rattle.ptb_command.specs.Act.{is_fresh, width_of, width_limit}
use Rattle.std.specs.Int.{FitsUnsignedBits}
use Rattle.ptb_expr.specs.declared.fault.FaultKind.TheVariants.{How}
use Rattle.ptb_command.specs.Effects.{action_state}
use Rattle.ptb_command.specs.Devices.{ScreenState, Devices, with_screen, bytes_alone, Shows, nothing_refused, HasBroken}
use Rattle.ptb_command.specs.Devices.{IsInputFault}
use Rattle.ptb_command.specs.declared.stop.CommandStop.{CommandStop}
use Rattle.ptb_command.specs.declared.stop.CommandStop.TheVariants as stops
use Rattle.ptb_command.specs.Traces.{Trace, trace, fresh_after, RefinesPart}
use Rattle.ptb_command.specs.Stops.{WantsLine, DeviceFails, Stops, RefinesPartTo, Comes}
use Rattle.ptb_expr.proofs.PublicLemmas.{with_answers_nil}
use Rattle.ptb_command.proofs.PartRefinement.{leaves_itself, leaves_to, refines_part_refl}

-- ---- fresh transcripts

fresh_nonempty : (x : List ℕ) (n : ℕ) → length x ≡ suc n → is_fresh x ≡ (slice_index x n == 10)
fresh_nonempty x n e =
    let k : suc n - 1 ≡ n = omega arith in
    ap (λ (m : ℕ). (m == 0) || (slice_index x (m - 1) == 10)) e
    ∙ ap (λ (q : Bool). q || (slice_index x (suc n - 1) == 10)) (eqb-suc-zero n)
    ∙ ap (λ (m : ℕ). slice_index x m == 10) k

after_nonempty : (fresh : Bool) (x : List ℕ) (n : ℕ) → length x ≡ suc n → fresh_after fresh x ≡ (slice_index x n == 10)
after_nonempty fresh x n e =
    let k : suc n - 1 ≡ n = omega arith in
    ap (λ (m : ℕ). if m == 0 then fresh else (slice_index x (m - 1) == 10)) e
    ∙ ap (λ (q : Bool). if q then fresh else (slice_index x (suc n - 1) == 10)) (eqb-suc-zero n)
    ∙ ap (λ (m : ℕ). slice_index x m == 10) k

pub is_fresh-append : (shown bytes : List ℕ) → is_fresh (shown ++ bytes) ≡ fresh_after (is_fresh shown) bytes
is_fresh-append shown [] = ap is_fresh (append-nil shown)
is_fresh-append shown (b ∷ bytes) =
    fresh_nonempty (shown ++ b ∷ bytes) (length shown + length bytes) (omega (arith, length-append shown (b ∷ bytes)))
    ∙ ap (λ (x : ℕ). x == 10) (get_or-append-add shown (b ∷ bytes) (length bytes) 0)
    ∙ sym (after_nonempty (is_fresh shown) (b ∷ bytes) (length bytes) refl)

-- ---- showing

module _ (old new : ScreenState) (d : Devices) (fresh : Bool) (cells : Cells) (bytes : List ℕ) where
  pub shown : Shows old new bytes → new.failures ≡ old.failures → (after : Bool) → after ≡ fresh_after fresh bytes
      → RefinesPart (trace (with_screen old d) fresh cells) (trace (with_screen new d) after cells) (show bytes)
      (goes_on tt)
  shown s unfailed after e = record {
    exchange = bytes_alone bytes;
    exchanges = record {
      grown = sym (with_answers_nil d.choices);
      shows = s;
      unfailed = unfailed;
      given = sym (append-nil d.given);
      falls = omega arith;
      same_choose = refl;
    };
    fresh = λ h k. is_fresh-append h bytes ∙ ap (λ x. fresh_after x bytes) k ∙ sym e;
    leaves = λ S rest _ w. leaves_to _
        (ap (λ (c : Cells). goes_on tt (record S { cells = c; shown = S.shown ++ bytes })) w.cells
        ∙ ap (λ (l : List (List ℕ)). goes_on tt (record S { cells = cells; lines = l; shown = S.shown ++ bytes }))
        w.lines)
        (leaves_itself (show bytes S));
  }

  -- only a part was shown
  part_shown : (n : ℕ) → Shows old new (take n bytes) → (fault : DeviceFault)
      → (IsInputFault fault → WantsLine (Halts (Ends endings.NoInput)) (take n bytes) (show bytes))
      → HasBroken nothing_refused old new fault
      → DeviceFails nothing_refused (RefinesPartTo (trace (with_screen old d) fresh cells) (trace (with_screen new d)
      fresh cells) (show bytes)) (with_screen new d) action_state (Halts (Ends endings.NoInput)) fault
  part_shown n s fault wants broken = record {
    left = show bytes;
    screen = old;
    bytes = take n bytes;
    comes = refines_part_refl (trace (with_screen old d) fresh cells) (show bytes);
    shows = s;
    continues = record {
      begins = λ S a. (
        drop n bytes,
        ap (λ l. S.shown ++ l) (sym (take-append-drop n bytes))
            ∙ sym (append_assoc S.shown (take n bytes) (drop n bytes)),
      );
      takes = λ S a. ([], refl);
    };
    line = wants;
    broken = broken;
  }

  -- by the contract of a screen
  pub not_shown : TakesSome old.shown new.shown bytes → old.failures ≤ new.failures → new.borrow ≡ old.borrow
      → new.takes_memory ≡ old.takes_memory → (fault : DeviceFault) → IsScreenFault fault
      → (IsErrOf {T = Unit {0}} (Err fault) screens.Write → HasFailed old.failures new.failures)
      → ((IsErrOf {T = Unit {0}} (Err fault) screens.Write → ⊥) → new.failures ≡ old.failures)
      → (IsErrOf {T = Unit {0}} (Err fault) screens.Memory → IsTrue old.takes_memory)
      → Stops nothing_refused (RefinesPartTo (trace (with_screen old d) fresh cells)
      (trace (with_screen new d) fresh cells) (show bytes)) (with_screen new d) (stops.Device fault)
  not_shown t later borrow memory screens.Read kind failed unfailed refused = absurd kind
  not_shown t later borrow memory screens.TooLong kind failed unfailed refused = absurd kind
  not_shown t later borrow memory screens.Write kind failed unfailed refused =
      part_shown t.0 (record { shown = t.2; same_borrow = borrow; same_memory = memory }) screens.Write
      (λ unread. absurd unread) (failed refl, later)
  not_shown t later borrow memory screens.Memory kind failed unfailed refused =
      part_shown t.0 (record { shown = t.2; same_borrow = borrow; same_memory = memory }) screens.Memory
      (λ unread. absurd unread) (record { by = inl (refused refl) }, unfailed (λ e. cc))

pub shown_as : (o n : Trace) (s bytes : List ℕ) (r : Result (Unit {0}) CommandStop) → s ≡ bytes
    → Comes nothing_refused o n (show s) goes_on r → Comes nothing_refused o n (show bytes) goes_on r
shown_as o n s bytes r e h = subst (λ (x : List ℕ). Comes nothing_refused o n (show x) goes_on r) e h

-- ---- widths

pub short_decimal : (v : ℤ) → FitsSigned w16 v → length (signed_decimal v) ≤ 6
short_decimal (pos n) h = let fits = h.sfits in
    omega (arith, length-decimal-le 5 n (omega arith) (omega arith) (omega arith))
short_decimal (negsuc n) h = let fits = h.sfits in
    omega (arith, length-decimal-le 5 (suc n) (omega arith) (omega arith) (omega arith))

pub take_shorter : {X : Type 0} (i j : ℕ) (s : List X) → i ≤ j → take i (take j s) ≡ take i s
take_shorter zero j s l = refl
take_shorter (suc i) zero s l = absurd (omega arith)
take_shorter (suc i) (suc j) [] l = refl
take_shorter (suc i) (suc j) (x ∷ s) l = ap (λ r. x ∷ r) (take_shorter i j s (omega arith))

-- of a block that is added, so many bytes are kept
pub few_kept : (old bytes : List ℕ) (from count : ℕ) → count ≤ 16
    → take (length old + count) (old ++ take (from + 16 - from) (drop from bytes)) ≡ old ++ take count (drop from bytes)
few_kept old bytes from count few =
    take-append-add old (take (from + 16 - from) (drop from bytes)) count
    ∙ ap (λ (x : List ℕ). old ++ x) (take_shorter count (from + 16 - from) (drop from bytes) (omega (arith, few)))

-- the first block of bytes and the last, over it as far as both have the same
pub ends_joined : (old bytes : List ℕ) (size last : ℕ) → last ≤ size
    → take (length old + last) (old ++ take size bytes) ++ take (length bytes - last) (drop last bytes) ≡ old ++ bytes
ends_joined old bytes size last within =
    ap (λ (x : List ℕ). x ++ take (length bytes - last) (drop last bytes))
    (take-append-add old (take size bytes) last ∙ ap (λ (x : List ℕ). old ++ x) (take_shorter last size bytes within))
    ∙ append_assoc old (take last bytes) (take (length bytes - last) (drop last bytes))
    ∙ ap (λ (x : List ℕ). old ++ (take last bytes ++ x)) (take_rest bytes last)
    ∙ ap (λ (x : List ℕ). old ++ x) (take-append-drop last bytes)

-- the part of a block that begins at k
pub block_end : (text : List ℕ) (k : ℕ) → k ≤ 16 → take (16 - k) (drop k text) ≡ drop k (take 16 text)
block_end text k within =
    sym (drop-take k (16 - k) text)
    ∙ ap (λ (n : ℕ). drop k (take n text)) (let all : k + (16 - k) ≡ 16 = omega (arith, within) in all)

-- the text s ends where 16 bytes end that were blanks, as those after them are
pub after_blanks : (s text : List ℕ) (start : ℕ) → start + length s ≡ 16
    → drop start text ≡ s ++ drop 16 (replicate 32 32) → take start text ≡ take start (replicate 32 32)
    → take 16 text ≡ replicate start 32 ++ s
after_blanks s text start ends written same =
    let short : start ≤ 32 = omega (arith, ends) in
    let whole : text ≡ (replicate start 32 ++ s) ++ drop 16 (replicate 32 32) =
    sym (take-append-drop start text)
    ∙ ap (λ (x : List ℕ). x ++ drop start text) (same ∙ take-replicate start 32 32 short)
    ∙ ap (λ (x : List ℕ). replicate start 32 ++ x) written
    ∙ sym (append_assoc (replicate start 32) s (drop 16 (replicate 32 32))) in
    let size : length (replicate start 32 ++ s) ≡ 16 =
    length-append (replicate start 32) s ∙ ap (λ (n : ℕ). n + length s) (length-replicate start 32) ∙ ends in
    ap (λ (x : List ℕ). take 16 x) whole
    ∙ ap (λ (n : ℕ). take n ((replicate start 32 ++ s) ++ drop 16 (replicate 32 32))) (sym size)
    ∙ take-append_seam (replicate start 32 ++ s) (drop 16 (replicate 32 32))

-- of the blanks before a text the first k go, and some of 239 blanks come before the others
pub padded_parts : (s text : List ℕ) (start k before w : ℕ) → text ≡ replicate start 32 ++ s → k ≤ start
    → before ≤ 239 → before + (start - k) ≡ w - length s
    → take before (replicate 239 32) ++ drop k text ≡ replicate (w - length s) 32 ++ s
padded_parts s text start k before w is few fits size =
    let parts : k + (start - k) ≡ start = omega (arith, few) in
    let whole : text ≡ replicate k 32 ++ (replicate (start - k) 32 ++ s) =
    is
    ∙ ap (λ (n : ℕ). replicate n 32 ++ s) (sym parts)
    ∙ ap (λ (x : List ℕ). x ++ s) (sym (replicate-append-replicate k (start - k) 32))
    ∙ append_assoc (replicate k 32) (replicate (start - k) 32) s in
    let rest : drop k text ≡ replicate (start - k) 32 ++ s =
    ap (λ (x : List ℕ). drop k x) whole
    ∙ ap (λ (n : ℕ). drop n (replicate k 32 ++ (replicate (start - k) 32 ++ s))) (sym (length-replicate k 32))
    ∙ drop-append_seam (replicate k 32) (replicate (start - k) 32 ++ s) in
    ap (λ (x : List ℕ). x ++ drop k text) (take-replicate before 239 32 fits)
    ∙ ap (λ (x : List ℕ). replicate before 32 ++ x) rest
    ∙ sym (append_assoc (replicate before 32) (replicate (start - k) 32) s)
    ∙ ap (λ (x : List ℕ). x ++ s) (replicate-append-replicate before (start - k) 32)
    ∙ ap (λ (n : ℕ). replicate n 32 ++ s) size

pub wide_enough : (z : ℤ) (n : ℕ) → FitsUnsignedBits 8 z → n ≡ unsigned_abs z → width_of z ≡ Ok n
wide_enough (pos m) n h e =
    let fits : m ≤ width_limit = omega (arith, h) in
    ap (λ (b : Bool). if b then Ok m else Err How) (le-leb m width_limit fits) ∙ ap (λ (k : ℕ). Ok k) (sym e)
wide_enough (negsuc m) n h e = absurd h

pub too_wide : (z : ℤ) → (FitsUnsignedBits 8 z → ⊥) → width_of z ≡ Err How
too_wide (pos m) h =
    let wide : width_limit < m = elim (dec_lt width_limit m) [ yes k ↦ k | no k ↦ absurd (h (omega arith)) ] in
    ap (λ (b : Bool). if b then Ok m else Err How) (lt-leb m width_limit wide)
too_wide (negsuc m) h = refl
