-- This file defines what a reader gives and a writer takes, where their bytes are known, how many a reader gives, and
-- how often they have failed. std's words serve for the bytes: `Consumes`, `Appends`, `Keeps`, `IsAtEnd`.
-- Main definition: `HasFailed`.
--     CountsFaults old new result        a call's fault is counted, and nothing else is
--     HasFailed old new                  the device failed between the two counts, or has failed for good
--     TakesSome old new bytes            a prefix of the bytes was taken
--     Gathers old new bytes pending      a prefix of the bytes was taken, and the others are pending
--     TakesSurely old new bytes result   a writer that takes so many bytes without failing has taken some of them
--     GivesExactly old new n             n bytes more were given
--     GivesAtMost old new n              at most n bytes more were given
--     CountsBytes old new result         the bytes of a read are counted, and a fault gives none
--     IsCounted old new n                n bytes were given over several reads, or none
--     device_inner d                     the device that is counted
--     failure_count d, given_count d     how often it has failed, and how many bytes it has given
--     IsReliableDevice reliable d        the device's reader is reliable
--     DeviceTakes takes d n              the device's writer takes n bytes without failing
use Rattle.std.specs.Prelude.{◌≡◌, ℕ, ◌+◌, ◌-◌, ◌^◌, ◌<◌, ◌≤◌, ◌⊎◌, min, List, ◌++◌, length, take}
use Rattle.std.specs.Prelude.{Option, Result, IsOkAnd, MatchResult}
use Rattle.std.specs.Io.KnownBytes.{Appends}
use Rattle.ptb_text.specs.declared.device.Device.{Device}

-- the count stops at the greatest number of 64 bits
abbrev pub failure_limit : ℕ
failure_limit = 2 ^ 64 - 1

-- a fault is counted, and nothing else is; a device whose count is at the limit has failed for good
abbrev pub CountsFaults : {T E : Type 0} → ℕ → ℕ → Result T E → Type 0
CountsFaults old new result =
    MatchResult result (λ _. (old < failure_limit) × (new ≡ old))
    (λ _. (old ≤ failure_limit) × (new ≡ min (old + 1) failure_limit))

-- the device failed between the two counts, or has failed for good
abbrev pub HasFailed : ℕ → ℕ → Type 0
HasFailed old new = (old < new) ⊎ (old ≡ failure_limit)

-- a prefix of these bytes was taken, and n is how many
abbrev pub TakesSome : Option (List ℕ) → Option (List ℕ) → List ℕ → Type 0
TakesSome old new bytes = (n : ℕ) × (n ≤ length bytes) × Appends old new (take n bytes)

-- a prefix of these bytes was taken, and the others wait to be written
pub record Gathers (old new : Option (List ℕ)) (bytes pending : List ℕ) : Type 0 where
  pub prefix : List ℕ
  pub whole : bytes ≡ prefix ++ pending
  pub growth : Appends old new prefix

-- A writer that takes k bytes without failing is given no more than these: it takes some, unless there are none,
-- and then takes the others of the k without failing.
abbrev pub TakesSurely : {E : Type 0} → (ℕ → Type 0) → (ℕ → Type 0) → List ℕ → Result ℕ E → Type 0
TakesSurely old new bytes result =
    (k : ℕ) → length bytes ≤ k → old k → IsOkAnd result (λ n. (0 < length bytes → 0 < n) × new (k - n))

-- the count of bytes stays at the greatest number of 64 bits
abbrev pub given_limit : ℕ
given_limit = 2 ^ 64 - 1

-- n more bytes were given, by a count that stays at its limit where it would pass it
abbrev pub GivesExactly : ℕ → ℕ → ℕ → Type 0
GivesExactly old new n = new ≡ min (old + n) given_limit

-- the count didn't fall, and rose by at most n
abbrev pub GivesAtMost : ℕ → ℕ → ℕ → Type 0
GivesAtMost old new n = (old ≤ new) × (new ≤ old + n)

-- the bytes that a read answers are counted, and a fault gives none
abbrev pub CountsBytes : {E : Type 0} → ℕ → ℕ → Result ℕ E → Type 0
CountsBytes old new result = (old ≤ given_limit) × MatchResult result (GivesExactly old new) (λ _. new ≡ old)

-- n bytes were given, by a count that is known to be within its limit once some were
pub record IsCounted (old new n : ℕ) : Type 0 where
  pub at_most : GivesAtMost old new n
  pub exactly : 0 < n → GivesExactly old new n

-- the reader or writer that is counted
abbrev pub device_inner : {T : Type 0} → Device T → T
device_inner d = d.inner

-- how often it has failed
abbrev pub failure_count : {T : Type 0} → Device T → ℕ
failure_count d = d.failures

-- how many bytes it has given
abbrev pub given_count : {T : Type 0} → Device T → ℕ
given_count d = d.given

-- its reader is reliable, and it has not failed for good
abbrev pub IsReliableDevice : {T : Type 0} → (T → Type 0) → Device T → Type 0
IsReliableDevice reliable d = reliable (device_inner d) × (failure_count d < failure_limit)

-- its writer takes n bytes without failing, and it has not failed for good
abbrev pub DeviceTakes : {T : Type 0} → (T → ℕ → Type 0) → Device T → ℕ → Type 0
DeviceTakes takes d n = takes (device_inner d) n × (failure_count d < failure_limit)
