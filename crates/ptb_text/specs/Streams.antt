-- This file defines what contracts see of a reader and of a writer over a call.
-- Main definition: `WritesText`.
--     Reads R, reads_of ..        what was read: the reader before and after, its bytes, and its counts
--     Writes, writes_of ..        what was written: the bytes that the writer has, and its count
--     WritesText out text result  the text was written, or a prefix of it where the writer failed
--     GathersText out text pending result     the same, and the last bytes of the text may wait
--     WritesOrFails out text done result      this was done, or a prefix of the text was written and the writer failed
--     ConsumesAtMost old new n    known bytes lose at most their first n
--     DescribesRead result taken ..       what a read within a limit says of the bytes that it took
--     ReadsWithin left now ..     a reader is read once, within what is left of a limit
--     ReadsUpTo limit input ..    a reader is read to its end, within a limit
use Rattle.std.specs.Prelude.{◌≡◌, ℕ, ◌+◌, ◌<◌, ◌≤◌, List, [], length, take, Option, IfSome}
use Rattle.std.specs.Prelude.{Result, Ok, Err, IfErr, IsErr, IsOk, OnErr, OnOk}
use Rattle.std.specs.Io.KnownBytes.{Appends, Consumes, IsAtEnd}
use Rattle.ptb_text.specs.declared.device_fault.DeviceFault.{DeviceFault}
use Rattle.ptb_text.specs.declared.device_fault.DeviceFault.TheVariants.{Write}
use Rattle.ptb_text.specs.declared.allowance.Piece.{Piece}
use Rattle.ptb_text.specs.declared.allowance.Piece.TheVariants.{End, Bytes, TooLong}
use Rattle.ptb_text.specs.Device.{Gathers, GivesAtMost, GivesExactly, HasFailed, IsCounted, TakesSome}

-- The counts of a reader and of a writer are those of all their calls.
pub record Reads (R : Type 0) : Type 0 where
  -- the reader before the call and after it
  pub old : R
  pub new : R
  -- the bytes that it had to give, and those that it still has; none where nobody knows them
  pub bytes : Option (List ℕ)
  pub left : Option (List ℕ)
  -- how many bytes it had given, and has given
  pub gave : ℕ
  pub gives : ℕ
  -- how often it had failed, and has failed
  pub failed : ℕ
  pub fails : ℕ

abbrev pub reads_of : {R : Type 0} → (R → Option (List ℕ)) → (R → ℕ) → (R → ℕ) → R → R → Reads R
reads_of remaining given failures old new =
    record {
      old = old;
      new = new;
      bytes = remaining old;
      left = remaining new;
      gave = given old;
      gives = given new;
      failed = failures old;
      fails = failures new;
    }

pub record Writes : Type 0 where
  -- the bytes that the writer had, and has; none where nobody knows them
  pub before : Option (List ℕ)
  pub after : Option (List ℕ)
  -- how often it had failed, and has failed
  pub failed : ℕ
  pub fails : ℕ

abbrev pub writes_of : {W : Type 0} → (W → Option (List ℕ)) → (W → ℕ) → W → W → Writes
writes_of contents failures old new =
    record { before = contents old; after = contents new; failed = failures old; fails = failures new }

-- A call that writes a text has done this, or its writer failed and took a prefix of the text.
pub record WritesOrFails {T : Type 0} (out : Writes) (text : List ℕ) (done : Type 0)
    (result : Result T DeviceFault) : Type 0 where
  pub ok : OnOk result done
  pub fault : OnErr result (TakesSome out.before out.after text)
  -- The writer is at fault where it failed, and only there.
  pub failed : OnErr result (HasFailed out.failed out.fails)
  pub kind : IfErr result (λ fault. fault ≡ Write)
  pub unfailed : OnOk result (out.fails ≡ out.failed)

-- all of it was written
abbrev pub WritesText : {T : Type 0} → Writes → List ℕ → Result T DeviceFault → Type 0
WritesText out text result = WritesOrFails out text (Appends out.before out.after text) result

-- it was written up to these bytes, which wait
abbrev pub GathersText : {T : Type 0} → Writes → (text pending : List ℕ) → Result T DeviceFault → Type 0
GathersText out text pending result = WritesOrFails out text (Gathers out.before out.after text pending) result

-- known bytes lose at most their first n
abbrev pub ConsumesAtMost : Option (List ℕ) → Option (List ℕ) → ℕ → Type 0
ConsumesAtMost old new n = (bytes : List ℕ) × (length bytes ≤ n) × Consumes old new bytes

-- What a read says of the bytes that it took, and of how many may be taken before and after it. A reader that has
-- failed or is at its end gave none. Bytes are at the front of the buffer, and more may be taken. There are too many
-- only where the last one that may be taken came, and nothing with it.
abbrev pub DescribesRead : Result Piece DeviceFault → (taken buffer : List ℕ) (left now : ℕ) → Option (List ℕ) → Type 0
DescribesRead (Ok End) taken buffer left now bytes = (taken ≡ []) × (0 < now) × IsAtEnd bytes
DescribesRead (Ok (Bytes n)) taken buffer left now bytes =
    (taken ≡ take n buffer) × (0 < n) × (n ≤ length buffer) × (0 < now)
DescribesRead (Ok TooLong) taken buffer left now bytes = (left ≤ 1) × (now ≡ 0)
DescribesRead (Err fault) taken buffer left now bytes = taken ≡ []

-- A reader is read once. So many bytes may be taken before and after, and the last of them only shows that there are
-- too many.
pub record ReadsWithin {R : Type 0} (left now : ℕ) (input : Reads R) (result : Result Piece DeviceFault)
    (buffer : List ℕ) : Type 0 where
  pub taken : List ℕ
  pub consumed : Consumes input.bytes input.left taken
  pub given : IsCounted input.gave input.gives (length taken)
  pub room : length taken + now ≡ left
  pub described : DescribesRead result taken buffer left now input.left
  -- The reader is at fault where it failed, and only there.
  pub has_failed : IsErr result → HasFailed input.failed input.fails
  pub unfailed : IsOk result → input.fails ≡ input.failed
  pub later : input.failed ≤ input.fails

-- A reader is read to its end. A call of which this is said is complete, or finds too many bytes, or finds that the
-- reader failed, or it is refused memory.
pub record ReadsUpTo {R : Type 0} (limit : ℕ) (input : Reads R) (complete too_long failed : Type 0) : Type 0 where
  -- At most one byte more than the limit is read, even if nobody knows which bytes come.
  pub consumed : ConsumesAtMost input.bytes input.left (limit + 1)
  pub given : GivesAtMost input.gave input.gives (limit + 1)
  -- A call that is complete has read all bytes, and no more than the limit.
  pub end : complete → IsAtEnd input.left
  pub within : complete → IfSome input.bytes (λ b. length b ≤ limit)
  pub given_within : complete → GivesAtMost input.gave input.gives limit
  -- There are too many bytes only where one more than the limit came.
  pub longer : too_long → IfSome input.bytes (λ b. limit < length b)
  pub given_longer : too_long → GivesExactly input.gave input.gives (limit + 1)
  -- The reader is at fault where it failed, and only there.
  pub has_failed : failed → HasFailed input.failed input.fails
  pub unfailed : ¬ failed → input.fails ≡ input.failed
  pub later : input.failed ≤ input.fails
