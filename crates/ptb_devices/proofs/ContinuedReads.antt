-- This file proves how an input continues at each step: a line is cut, more is read, the end or a fault comes.
-- Main lemmas: `ReadsOn_line`, `ReadsOn_more_bytes` and `ReadsOn_end`.
use Rattle.std.proofs.Common.{◌≡◌, ℕ, ◌+◌, ◌-◌, ◌≤◌, ◌<◌, inl, inr, Bool, true, false}
use Rattle.std.proofs.Common.{ltb, List, [], ◌∷◌, ◌++◌, length, take, Option, Some, None, IfSome}
use Rattle.std.proofs.Common.{Result, Ok}
use Rattle.std.proofs.Common.{is_some, refl, sym, ap, subst, ◌∙◌, append_assoc, append-nil}
use Rattle.std.proofs.Common.{slice_range, arith, length-append, length-take, length-drop, take_all}
use Rattle.std.proofs.Common.{drop, drop-drop, take-append-drop}
use Rattle.std.specs.Prelude.{if◌then◌else◌}
use Rattle.std.specs.Result.{IsErr, is_ok}
use Rattle.std.proofs.Math.Seq.{take-nil}
use Rattle.std.proofs.lemmas.List.{drop-take, length-take-le}
use Rattle.std.proofs.lemmas.Bool.{ltb-true, lt-ltb, le-ltb, ltb_from_iff}
use Rattle.std.specs.Io.KnownBytes.{Consumes, IsAtEnd}
use Rattle.std.proofs.KnownBytes.{Consumes-nil}
use Rattle.ptb_text.specs.Device.{HasFailed, IsCounted}
use Rattle.ptb_text.specs.Streams.{ReadsWithin, reads_of}
use Rattle.ptb_text.specs.declared.allowance.Piece.{Piece}
use Rattle.ptb_text.specs.declared.allowance.Piece.TheVariants as pieces
use Rattle.ptb_text.specs.declared.device_fault.DeviceFault.{DeviceFault}
use Rattle.ptb_text.proofs.PublicLemmas.{IsCounted_none, told_as}
use Rattle.ptb_devices.specs.declared.line_buffer.InputEnd.{InputEnd}
use Rattle.ptb_devices.specs.declared.line_buffer.InputEnd.TheVariants.{Open, Ended, Failed, Exceeded}
use Rattle.ptb_devices.specs.CutLines.{kept_bytes, whole_lines, last_piece, line_of_piece, Cuts}
use Rattle.ptb_devices.specs.CutLineLaws.{whole_lines-append, last_piece-append}
use Rattle.ptb_devices.specs.Sources.{Loses}
use Rattle.ptb_devices.specs.Inputs.{InputState, InputNow, open_piece, cut_bytes}
use Rattle.ptb_devices.specs.Inputs.{ends_within, lines_to_end, known_lines, CutsLine, CutsAll}
use Rattle.ptb_devices.specs.Inputs.{TakesLine, missed_at, missed_in, ReadsOn}
use Rattle.ptb_devices.specs.InputLaws.{ReadsOn_none, take-split}
use Rattle.ptb_devices.proofs.CutLines.{Cuts_more}

-- ---- lines that are asked for

-- at most one is asked for without success, and no more once a piece is given
asked_one : (end : InputEnd) (s t : Bool) → missed_at end s ≤ 1 + missed_at end t
asked_one Open s t = omega arith
asked_one Ended true t = omega arith
asked_one Ended false t = omega arith
asked_one Failed s t = omega arith
asked_one Exceeded s t = omega arith

asked_open : (end : InputEnd) (s : Bool) → missed_at end s ≤ 0 + missed_at end false
asked_open Open s = omega arith
asked_open Ended true = omega arith
asked_open Ended false = omega arith
asked_open Failed s = omega arith
asked_open Exceeded s = omega arith

-- ---- a piece that was given is forgotten

pub ReadsOn_forget : (wanted : ℕ) (m : InputNow)
    → ReadsOn wanted m [] (record m { state = record m.state { piece = open_piece m.state; is_given = false } })
ReadsOn_forget wanted m =
    let same : ReadsOn wanted m [] m = ReadsOn_none wanted m in
    record {
      loses = same.loses;
      falls = same.falls;
      taken = same.taken;
      consumed = same.consumed;
      counted = same.counted;
      room = same.room;
      ahead = same.ahead;
      stays = same.stays;
      drained = same.drained;
      asks = asked_open m.state.end m.state.is_given;
      cut = same.cut;
      spare = same.spare;
      ended = same.ended;
      later = same.later;
      unfailed = same.unfailed;
      failed = same.failed;
      exceeded = same.exceeded;
    }

-- ---- what has come is cut

-- the line of a last piece, where the bytes end with it or are cut off
abbrev cut_off : Bool → Option (List ℕ) → List (List ℕ)
cut_off ends p = if ends then line_of_piece p else (kept_bytes p ∷ [])

lines_to_end-cut : (ends : Bool) (p q : Option (List ℕ)) (front rest : List ℕ) (ls : List (List ℕ)) → Cuts p front ls q
    → lines_to_end ends p (front ++ rest) ≡ ls ++ lines_to_end ends q rest
lines_to_end-cut ends p q front rest ls c =
    let whole : whole_lines p (front ++ rest) ≡ ls ++ whole_lines q rest =
    whole_lines-append p front rest ∙ ap (λ l. l ++ whole_lines (last_piece p front) rest) c.0
    ∙ ap (λ s. ls ++ whole_lines s rest) c.1 in
    let last : last_piece p (front ++ rest) ≡ last_piece q rest =
    last_piece-append p front rest ∙ ap (λ s. last_piece s rest) c.1 in
    ap (λ l. l ++ cut_off ends (last_piece p (front ++ rest))) whole
    ∙ ap (λ s. (ls ++ whole_lines q rest) ++ cut_off ends s) last
    ∙ append_assoc ls (whole_lines q rest) (cut_off ends (last_piece q rest))

open_piece-kept : (a : InputState) → a.is_given ≡ false → open_piece a ≡ a.piece
open_piece-kept a kept = ap (λ t. if t then None else a.piece) kept

-- the piece that is open after a cut
abbrev left_open : Bool → Option (List ℕ) → Option (List ℕ)
left_open given q = if given then None else q

loses_cut : (a : InputState) (given : Bool) (q : Option (List ℕ)) (front rest : List ℕ) (ls : List (List ℕ))
    (known : Option (List ℕ))
    → a.is_given ≡ false → a.waiting ≡ front ++ rest → Cuts a.piece front ls (left_open given q)
    → Loses (known_lines (record { state = a; bytes = known; given = 0; failures = 0 }))
    (known_lines (record {
      state = record a { piece = q; is_given = given; waiting = rest };
      bytes = known;
      given = 0;
      failures = 0;
    })) ls
loses_cut a given q front rest ls None kept whole c = tt
loses_cut a given q front rest ls (Some bytes) kept whole c =
    let ends : Bool = ends_within a.end a.left bytes in
    let coming : List ℕ = cut_bytes a bytes in
    ap (λ p. lines_to_end ends p (a.waiting ++ coming)) (open_piece-kept a kept)
    ∙ ap (λ w. lines_to_end ends a.piece (w ++ coming)) whole
    ∙ ap (lines_to_end ends a.piece) (append_assoc front rest coming)
    ∙ lines_to_end-cut ends a.piece (left_open given q) front (rest ++ coming) ls c

-- of two lists that are none together, the second is none
none_after : (front rest : List ℕ) → front ++ rest ≡ [] → rest ≡ []
none_after [] rest e = e
none_after (b ∷ front) rest e = absurd (let clash = ap length e in omega arith)

ReadsOn_cut : (wanted : ℕ) (m : InputNow) (given : Bool) (q : Option (List ℕ)) (front rest : List ℕ)
    (ls : List (List ℕ))
    → m.state.is_given ≡ false → m.state.waiting ≡ front ++ rest → Cuts m.state.piece front ls (left_open given q)
    → length (line_of_piece (left_open given q)) + length ls ≤ length front + length (line_of_piece m.state.piece)
    → missed_in m.state ≤ length ls + missed_at m.state.end given
    → ReadsOn wanted m ls (record m { state = record m.state { piece = q; is_given = given; waiting = rest } })
ReadsOn_cut wanted m given q front rest ls kept whole c fewer asks = record {
  loses = loses_cut m.state given q front rest ls m.bytes kept whole c;
  falls = omega (
    arith,
    fewer,
    ap length whole,
    length-append front rest,
    ap (λ p. length (line_of_piece p)) (open_piece-kept m.state kept),
  );
  taken = [];
  consumed = Consumes-nil m.bytes;
  counted = IsCounted_none m.given;
  room = omega arith;
  ahead = inl refl;
  stays = λ _. (refl, refl);
  drained = λ d closed. none_after front rest (sym whole ∙ d closed);
  asks = asks;
  cut = λ _.
      let both : Cuts m.state.piece (front ++ rest) (ls ++ whole_lines (left_open given q) rest)
      (last_piece (left_open given q) rest) =
      Cuts_more m.state.piece (left_open given q) _ front rest ls _ c (refl, refl) in
      let waiting : m.state.waiting ++ take (m.state.left - 1) [] ≡ front ++ rest =
      ap (λ l. m.state.waiting ++ l) (take-nil (m.state.left - 1)) ∙ append-nil m.state.waiting ∙ whole in
      let piece : open_piece m.state ≡ m.state.piece = open_piece-kept m.state kept in (
        ap (λ p. whole_lines p (m.state.waiting ++ take (m.state.left - 1) [])) piece
            ∙ ap (whole_lines m.state.piece) waiting ∙ both.0,
        ap (λ p. last_piece p (m.state.waiting ++ take (m.state.left - 1) [])) piece
            ∙ ap (last_piece m.state.piece) waiting ∙ both.1,
      );
  spare = λ room _. room;
  ended = λ e. inl e;
  later = omega arith;
  unfailed = λ _. refl;
  failed = λ e. inl e;
  exceeded = λ e. inl e;
}

pub ReadsOn_line : (wanted : ℕ) (m : InputNow) (b : InputState) → m.state.is_given ≡ false → CutsLine m.state b
    → ReadsOn wanted m (kept_bytes b.piece ∷ []) (record m { state = b })
ReadsOn_line wanted m b kept cuts =
    subst (λ (s : InputState). ReadsOn wanted m (kept_bytes b.piece ∷ []) (record m { state = s })) (sym cuts.rest)
    (ReadsOn_cut wanted m true b.piece cuts.prefix b.waiting (kept_bytes b.piece ∷ []) kept cuts.whole cuts.cut
    (omega (arith, cuts.some)) (asked_one m.state.end m.state.is_given true))

-- a line is given where it is, and not kept
pub ReadsOn_whole : (wanted : ℕ) (m : InputNow) (line : List ℕ) (b : InputState) → m.state.is_given ≡ false
    → TakesLine m.state line b → ReadsOn wanted m (line ∷ []) (record m { state = b })
ReadsOn_whole wanted m line b kept takes =
    let same : record m.state { piece = None; is_given = false; waiting = b.waiting } ≡ b =
    ap (λ p. record m.state { piece = p; is_given = false; waiting = b.waiting }) (sym takes.unstarted)
    ∙ ap (λ t. record m.state { is_given = t; waiting = b.waiting }) (sym kept) ∙ sym takes.rest in
    let cut : Cuts m.state.piece takes.prefix (line ∷ []) None =
    subst (λ p. Cuts p takes.prefix (line ∷ []) None) (sym takes.unstarted) takes.cut in
    subst (λ (s : InputState). ReadsOn wanted m (line ∷ []) (record m { state = s })) same
    (ReadsOn_cut wanted m false None takes.prefix b.waiting (line ∷ []) kept takes.whole cut (omega (arith, takes.some))
    (asked_one m.state.end m.state.is_given false))

-- where no line ends, a piece begins at most where there are bytes
begun_by_bytes : (p q : Option (List ℕ)) (bytes : List ℕ) → Cuts p bytes [] q
    → length (line_of_piece q) ≤ length bytes + length (line_of_piece p)
begun_by_bytes p q [] c = omega (arith, ap (λ s. length (line_of_piece s)) c.1)
begun_by_bytes p None (b ∷ bytes) c = omega arith
begun_by_bytes p (Some kept) (b ∷ bytes) c = omega arith

pub ReadsOn_all : (wanted : ℕ) (m : InputNow) (b : InputState) → m.state.is_given ≡ false → CutsAll m.state b
    → ReadsOn wanted m [] (record m { state = b })
ReadsOn_all wanted m b kept cuts =
    subst (λ (s : InputState). ReadsOn wanted m [] (record m { state = s })) (sym cuts.rest)
    (ReadsOn_cut wanted m false b.piece m.state.waiting [] [] kept (sym (append-nil m.state.waiting)) cuts.cut
    (omega (arith, begun_by_bytes m.state.piece b.piece m.state.waiting cuts.cut))
    (asked_open m.state.end m.state.is_given))

-- ---- more is read, where all that has come is cut

same_test : (a b c d : ℕ) → (a < b → c < d) → (c < d → a < b) → ltb a b ≡ ltb c d
same_test a b c d to from =
    ltb_from_iff {b = ltb a b} {m = c} {n = d} (λ e. to (ltb-true a b e), λ h. lt-ltb a b (from h))

-- what is open, with the bytes that came after it
abbrev pub state_at : Option (List ℕ) → Bool → List ℕ → ℕ → InputEnd → InputState
state_at p given waiting left end = record { piece = p; is_given = given; waiting = waiting; left = left; end = end }

loses_more : (p : Option (List ℕ)) (given : Bool) (bytes : List ℕ) (k l : ℕ) (old new : Option (List ℕ))
    → Consumes old new bytes → length bytes + l ≡ k → 0 < l
    → Loses (known_lines (record { state = state_at p given [] k Open; bytes = old; given = 0; failures = 0 }))
    (known_lines (record { state = state_at p given bytes l Open; bytes = new; given = 0; failures = 0 })) []
loses_more p given bytes k l None new c size room = tt
loses_more p given bytes k l (Some x) None c size room = absurd c
loses_more p given bytes k l (Some x) (Some y) c size room =
    let q : Option (List ℕ) = left_open given p in
    let total : length x ≡ length bytes + length y = ap length c ∙ length-append bytes y in
    let test : ltb (length x) k ≡ ltb (length y) l =
    same_test (length x) k (length y) l (λ h. omega (arith, h, total, size)) (λ h. omega (arith, h, total, size)) in
    let less : (k - 1) - length bytes ≡ l - 1 = omega (arith, size) in
    let coming : take (k - 1) x ≡ bytes ++ take (l - 1) y =
    ap (take (k - 1)) c ∙ take-split (k - 1) bytes y ∙ ap (λ f. f ++ take ((k - 1) - length bytes) y)
    (take_all (k - 1) bytes (omega (arith, size)))
    ∙ ap (λ n. bytes ++ take n y) less in
    ap (λ t. lines_to_end t q (take (k - 1) x)) test ∙ ap (lines_to_end (ltb (length y) l) q) coming

pub ReadsOn_more_bytes : (p : Option (List ℕ)) (given : Bool) (bytes : List ℕ) (k l : ℕ) (old new : Option (List ℕ))
    (f g x y : ℕ)
    → Consumes old new bytes → length bytes + l ≡ k → 0 < l → g ≡ f → 0 < length bytes → length bytes ≤ 4096
    → IsCounted x y (length bytes)
    → ReadsOn 1 (record { state = state_at p given [] k Open; bytes = old; given = x; failures = f }) []
    (record { state = state_at p given bytes l Open; bytes = new; given = y; failures = g })
ReadsOn_more_bytes p given bytes k l old new f g x y c size room unfailed some fits counted = record {
  loses = loses_more p given bytes k l old new c size room;
  falls = omega (arith, size);
  taken = bytes;
  consumed = c;
  counted = counted;
  room = size;
  ahead = inr (record { before = []; piece = bytes; both = refl; some = some; fits = fits; needed = omega arith });
  stays = λ closed. absurd (closed refl);
  drained = λ d closed. absurd (closed refl);
  asks = omega arith;
  cut = λ _.
      let q : Option (List ℕ) = left_open given p in
      let all : take (k - 1) bytes ≡ bytes = take_all (k - 1) bytes (omega (arith, size)) in
      (ap (whole_lines q) all, ap (last_piece q) all);
  spare = λ _ _. room;
  ended = λ e. inl e;
  later = omega arith;
  unfailed = λ _. unfailed;
  failed = λ e. inl e;
  exceeded = λ e. inl e;
}

loses_end : (p : Option (List ℕ)) (given : Bool) (k : ℕ) (old new : Option (List ℕ)) → Consumes old new [] → IsAtEnd new
    → 0 < k
    → Loses (known_lines (record { state = state_at p given [] k Open; bytes = old; given = 0; failures = 0 }))
    (known_lines (record { state = state_at p given [] k Ended; bytes = new; given = 0; failures = 0 })) []
loses_end p given k None new c end room = tt
loses_end p given k (Some x) None c end room = absurd c
loses_end p given k (Some x) (Some y) c end room =
    let q : Option (List ℕ) = left_open given p in
    let none : x ≡ [] = c ∙ end in
    ap (λ l. lines_to_end (ltb (length l) k) q (take (k - 1) l)) none
    ∙ ap (λ t. lines_to_end t q (take (k - 1) [])) (lt-ltb 0 k room)
    ∙ ap (lines_to_end true q) (take-nil (k - 1))

within : {k : ℕ} (a b : Option (List ℕ)) → Consumes a b [] → IsAtEnd b → 0 < k → IfSome a (λ bytes. length bytes < k)
within None b c end room = tt
within (Some x) None c end room = absurd c
within (Some x) (Some y) c end room = omega (arith, ap length c, ap length end, room)

pub ReadsOn_end : (p : Option (List ℕ)) (given : Bool) (k : ℕ) (old new : Option (List ℕ)) (f g x y : ℕ)
    → Consumes old new [] → IsAtEnd new → 0 < k → g ≡ f → IsCounted x y 0
    → ReadsOn 1 (record { state = state_at p given [] k Open; bytes = old; given = x; failures = f }) []
    (record { state = state_at p given [] k Ended; bytes = new; given = y; failures = g })
ReadsOn_end p given k old new f g x y c end room unfailed counted = record {
  loses = loses_end p given k old new c end room;
  falls = omega arith;
  taken = [];
  consumed = c;
  counted = counted;
  room = omega arith;
  ahead = inl refl;
  stays = λ closed. absurd (closed refl);
  drained = λ d closed. refl;
  asks = omega arith;
  cut = λ going. absurd (going refl);
  spare = λ room _. room;
  ended = λ _. inr (within old new c end room);
  later = omega arith;
  unfailed = λ _. unfailed;
  failed = λ e. absurd (let clash : Ended ≡ Failed = e in cc);
  exceeded = λ e. absurd (let clash : Ended ≡ Exceeded = e in cc);
}

loses_failed : (p : Option (List ℕ)) (given : Bool) (k : ℕ) (old new : Option (List ℕ)) → Consumes old new []
    → Loses (known_lines (record { state = state_at p given [] k Open; bytes = old; given = 0; failures = 0 }))
    (known_lines (record { state = state_at p given [] k Failed; bytes = new; given = 0; failures = 0 })) []
loses_failed p given k None new c = tt
loses_failed p given k (Some x) None c = absurd c
loses_failed p given k (Some x) (Some y) c =
    ap (λ l. lines_to_end (ltb (length l) k) (left_open given p) (take (k - 1) l)) c

pub ReadsOn_failed : (p : Option (List ℕ)) (given : Bool) (k : ℕ) (old new : Option (List ℕ)) (f g x y : ℕ)
    → Consumes old new [] → HasFailed f g → f ≤ g → IsCounted x y 0
    → ReadsOn 1 (record { state = state_at p given [] k Open; bytes = old; given = x; failures = f }) []
    (record { state = state_at p given [] k Failed; bytes = new; given = y; failures = g })
ReadsOn_failed p given k old new f g x y c failed later count = record {
  loses = loses_failed p given k old new c;
  falls = omega arith;
  taken = [];
  consumed = c;
  counted = count;
  room = omega arith;
  ahead = inl refl;
  stays = λ closed. absurd (closed refl);
  drained = λ d closed. refl;
  asks = omega arith;
  cut = λ _. (
    ap (whole_lines (left_open given p)) (take-nil (k - 1)),
    ap (last_piece (left_open given p))
        (take-nil (k - 1)),
  );
  spare = λ room _. room;
  ended = λ e. absurd (let clash : Failed ≡ Ended = e in cc);
  later = later;
  unfailed = λ other. absurd (other refl);
  failed = λ _. inr failed;
  exceeded = λ e. absurd (let clash : Failed ≡ Exceeded = e in cc);
}

loses_exceeded : (p : Option (List ℕ)) (given : Bool) (piece : List ℕ) (old new : Option (List ℕ))
    → Consumes old new piece → length piece ≡ 1
    → Loses (known_lines (record { state = state_at p given [] 1 Open; bytes = old; given = 0; failures = 0 }))
    (known_lines (record { state = state_at p given [] 0 Exceeded; bytes = new; given = 0; failures = 0 })) []
loses_exceeded p given piece None new c one = tt
loses_exceeded p given piece (Some x) None c one = absurd c
loses_exceeded p given piece (Some x) (Some y) c one =
    let q : Option (List ℕ) = left_open given p in
    let total : length x ≡ length piece + length y = ap length c ∙ length-append piece y in
    ap (λ t. lines_to_end t q []) (le-ltb (length x) 1 (omega (arith, total, one))
    ∙ sym (le-ltb (length y) 0 (omega arith)))

pub ReadsOn_exceeded : (p : Option (List ℕ)) (given : Bool) (piece : List ℕ) (old new : Option (List ℕ)) (f g x y : ℕ)
    → Consumes old new piece → length piece ≡ 1 → g ≡ f → IsCounted x y (length piece)
    → ReadsOn 1 (record { state = state_at p given [] 1 Open; bytes = old; given = x; failures = f }) []
    (record { state = state_at p given [] 0 Exceeded; bytes = new; given = y; failures = g })
ReadsOn_exceeded p given piece old new f g x y c one unfailed counted = record {
  loses = loses_exceeded p given piece old new c one;
  falls = omega arith;
  taken = piece;
  consumed = c;
  counted = counted;
  room = omega (arith, one);
  ahead = inr (record {
    before = [];
    piece = piece;
    both = refl;
    some = omega (arith, one);
    fits = omega (arith, one);
    needed = omega arith;
  });
  stays = λ closed. absurd (closed refl);
  drained = λ d closed. refl;
  asks = omega arith;
  cut = λ _. (refl, refl);
  spare = λ _ other. absurd (other refl);
  ended = λ e. absurd (let clash : Exceeded ≡ Ended = e in cc);
  later = omega arith;
  unfailed = λ _. unfailed;
  failed = λ e. absurd (let clash : Exceeded ≡ Failed = e in cc);
  exceeded = λ _. inr refl;
}

-- ---- a read within what is left

module _ {R : Type 0} (remaining : R → Option (List ℕ)) (gave failures : R → ℕ) (r s : R) (p : Option (List ℕ))
    (given : Bool) (left now : ℕ) (result : Result Piece DeviceFault) (buffer : List ℕ)
    (step : ReadsWithin left now (reads_of remaining gave failures r s) result buffer) (room : 0 < left) where
  abbrev before : InputNow
  before = record { state = state_at p given [] left Open; bytes = remaining r; given = gave r; failures = failures r }

  abbrev after : List ℕ → InputEnd → InputNow
  after waiting end =
      record { state = state_at p given waiting now end; bytes = remaining s; given = gave s; failures = failures s }

  none_taken : step.taken ≡ [] → Consumes (remaining r) (remaining s) [] × IsCounted (gave r) (gave s) 0 × (now ≡ left)
  none_taken none = (
    subst (Consumes (remaining r) (remaining s)) none step.consumed,
    subst (IsCounted (gave r) (gave s)) (ap length none) step.given,
    omega (arith, step.room, ap length none),
  )

  pub read_end : result ≡ Ok pieces.End → ReadsOn 1 before [] (after [] Ended)
  read_end is =
      let told = told_as step (Ok pieces.End) is in
      let none = none_taken told.0 in
      rw none.2 (ReadsOn_end p given left (remaining r) (remaining s) (failures r) (failures s) (gave r) (gave s) none.0
      told.2 room (step.unfailed (ap is_ok is)) none.1)

  pub read_failed : IsErr result → step.taken ≡ [] → ReadsOn 1 before [] (after [] Failed)
  read_failed is taken =
      let none = none_taken taken in
      rw none.2 (ReadsOn_failed p given left (remaining r) (remaining s) (failures r) (failures s) (gave r) (gave s)
      none.0 (step.has_failed is) step.later none.1)

  pub read_bytes : (n : ℕ) → result ≡ Ok (pieces.Bytes n) → length buffer ≡ 4096
      → ReadsOn 1 before [] (after (take n buffer) Open)
  read_bytes n is size =
      let told = told_as step (Ok (pieces.Bytes n)) is in
      let long : length (take n buffer) ≡ n = length-take-le n buffer told.2 in
      ReadsOn_more_bytes p given (take n buffer) left now (remaining r) (remaining s) (failures r) (failures s) (gave r)
      (gave s) (subst (Consumes (remaining r) (remaining s)) told.0 step.consumed)
      (omega (arith, step.room, ap length told.0)) told.3 (step.unfailed (ap is_ok is)) (omega (arith, long, told.1))
      (omega (arith, long, told.2, size))
      (subst (λ bytes. IsCounted (gave r) (gave s) (length bytes)) told.0 step.given)

  pub read_falls : (n : ℕ) → result ≡ Ok (pieces.Bytes n) → now < left
  read_falls n is =
      let told = told_as step (Ok (pieces.Bytes n)) is in
      omega (arith, ap length told.0, length-take-le n buffer told.2, told.1, step.room)

  pub read_too_long : result ≡ Ok pieces.TooLong → ReadsOn 1 before [] (after [] Exceeded)
  read_too_long is =
      let told = told_as step (Ok pieces.TooLong) is in
      let last : left ≡ 1 = omega (arith, told.0, room) in
      let none : now ≡ 0 = told.1 in
      let one : length step.taken ≡ 1 = omega (arith, last, none, step.room) in
      rw (last, none) (ReadsOn_exceeded p given step.taken (remaining r) (remaining s) (failures r) (failures s)
      (gave r) (gave s) step.consumed one (step.unfailed (ap is_ok is)) step.given)

-- ---- the states of the machine's fields

-- where all that has come is cut, and the reader may have more
pub state_open : (a : InputState) (p : Option (List ℕ)) (given : Bool) (waiting : List ℕ) (left : ℕ) (end : InputEnd)
    → state_at p given waiting left end ≡ a → a.waiting ≡ []
    → end ≡ Open → a ≡ state_at p given [] left Open
state_open a p given waiting left end view none goes =
    sym view ∙ ap (λ w. state_at p given w left end) (ap (λ s. s.waiting) view ∙ none)
    ∙ ap (λ e. state_at p given [] left e) goes

-- a range of no bytes has none in another buffer
pub slice_range-none : (xs ys : List ℕ) (i j : ℕ) → i ≤ j → j ≤ length xs → slice_range xs i j ≡ []
    → slice_range ys i j ≡ []
slice_range-none xs ys i j ordered inside none =
    let size : j - i ≡ length (slice_range xs i j) = omega (arith, length-take (j - i) (drop i xs), length-drop i xs) in
    ap (λ n. take n (drop i ys)) (let empty : j - i ≡ 0 = size ∙ ap length none in empty)

-- the first bytes of a buffer
pub slice_range-read : (n : ℕ) (xs : List ℕ) → slice_range xs 0 n ≡ take n xs
slice_range-read n xs = ap (λ k. take k xs) (let e : n - 0 ≡ n = omega arith in e)

-- a range has the bytes between its places
pub range_size : (xs : List ℕ) (i j : ℕ) → j ≤ length xs → i ≤ j → length (slice_range xs i j) ≡ j - i
range_size xs i j inside ordered =
    omega (arith, length-take (j - i) (drop i xs), length-drop i xs, inside, ordered)

-- a range is its first bytes and the range after them
pub slice_range-front : (xs : List ℕ) (i j n : ℕ) → i + n ≤ j
    → slice_range xs i j ≡ take n (slice_range xs i j) ++ slice_range xs (i + n) j
slice_range-front xs i j n inside =
    let rest : drop n (slice_range xs i j) ≡ slice_range xs (i + n) j =
    ap (λ k. drop n (take k (drop i xs))) (let e : j - i ≡ n + (j - (i + n)) = omega arith in
    e) ∙ drop-take n (j - (i + n)) (drop i xs)
    ∙ ap (take (j - (i + n))) (drop-drop n i xs) in
    sym (take-append-drop n (slice_range xs i j)) ∙ ap (λ l. take n (slice_range xs i j) ++ l) rest

pub ReadsOn_at : (wanted : ℕ) (m n : InputNow) (s t : InputState) → m.state ≡ s → n.state ≡ t
    → ReadsOn wanted (record m { state = s }) [] (record n { state = t }) → ReadsOn wanted m [] n
ReadsOn_at wanted m n s t e f reads =
    subst (λ (u : InputState). ReadsOn wanted m [] (record n { state = u })) (sym f)
    (subst (λ (u : InputState). ReadsOn wanted (record m { state = u }) [] (record n { state = t })) (sym e) reads)

-- ---- the last piece is given

module _ (wanted k : ℕ) (known : Option (List ℕ)) (x f : ℕ) where
  -- at the end of the input, where all that came is cut
  abbrev at_end : Option (List ℕ) → Bool → InputNow
  at_end p given = record { state = state_at p given [] k Ended; bytes = known; given = x; failures = f }

  loses_last : (kept : List ℕ) (a : Option (List ℕ))
      → Loses
      (known_lines (record { state = state_at (Some kept) false [] k Ended; bytes = a; given = x; failures = f }))
      (known_lines (record { state = state_at (Some kept) true [] k Ended; bytes = a; given = x; failures = f }))
      (kept ∷ [])
  loses_last kept None = tt
  loses_last kept (Some x) = refl

  pub ReadsOn_last : (p : Option (List ℕ)) → ReadsOn wanted (at_end p false) (line_of_piece p) (at_end p (is_some p))
  ReadsOn_last None = ReadsOn_none wanted _
  ReadsOn_last (Some kept) = record {
    loses = loses_last kept known;
    falls = omega arith;
    taken = [];
    consumed = Consumes-nil known;
    counted = IsCounted_none x;
    room = omega arith;
    ahead = inl refl;
    stays = λ _. (refl, refl);
    drained = λ d. d;
    asks = omega arith;
    cut = λ going. absurd (going refl);
    spare = λ room _. room;
    ended = λ e. inl e;
    later = omega arith;
    unfailed = λ _. refl;
    failed = λ e. inl e;
    exceeded = λ e. inl e;
  }
