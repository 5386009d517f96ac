-- This file answers what is left to prove of `staying_in_block`.
use Rattle.std.proofs.Common.{◌≡◌, ◌∙◌, ◌+◌, ◌%◌, ◌^◌, ℕ, Bool, arith, ap, map, not, refl, bit_or, leb, ltb}
use Rattle.std.proofs.Common.{eqb, cond}
use Rattle.std.specs.Int.{w64, trailing_zeros}
use Rattle.std.specs.List.{prefix_len}
use Rattle.std.proofs.lemmas.List.{length-map}
use Rattle.std.proofs.lemmas.Simd.{zip2_of_maps, zip2_splat, zip2_splat_left, length-chunk, map-map, mask_l-mod}
use Rattle.std.proofs.lemmas.Simd.{first_set_mask_l, run_in_chunk_le, run_in_chunk_fails}
use lib.Lanes.{chunk, mask_l, top}
use Rattle.ptb_devices.proofs.CutLines.{StayUpTo_run}
use Rattle.ptb_devices.proofs.line_buffer.staying_in_block.Goals as goal

-- the lanes at which it stops
abbrev lane : ℕ → ℕ
lane b = bit_or (cond (ltb b 32) 255 0) (cond (leb 127 b) 255 0)

abbrev stops : ℕ → Bool
stops b = top 7 (lane b)

pub returns : goal.returns
returns c =
    let bytes = c.args.bytes.now in
    let v = chunk c.args.from 16 bytes in
    let long = length-chunk c.args.from 16 bytes c.requires in
    let lanes = zip2_of_maps bit_or (λ b. cond (ltb b 32) 255 0) (λ b. cond (leb 127 b) 255 0) v
    (zip2_splat {Y = ℕ} (λ a b. cond (ltb a b) 255 0) v 16 32 long)
    (zip2_splat_left {X = ℕ} (λ a b. cond (leb a b) 255 0) 127 16 v long) in
    let mask = ap (λ l. mask_l l % 2 ^ 64) (ap (map (top 7)) lanes ∙ map-map (top 7) lane v)
    ∙ mask_l-mod (map stops v) 64 (omega (arith, length-map v stops, long)) in
    let counted : c.first_set.result ≡ prefix_len (λ b. not (stops b)) v = c.first_set.ensures
    ∙ ap (λ m. cond (eqb m 0) 16 (trailing_zeros w64 m)) mask ∙ first_set_mask_l stops v 16 long (omega arith) in
    record {
      stay = StayUpTo_run stops bytes c.args.from c.first_set.result refl c.type_inv.bytes
          (run_in_chunk_fails stops bytes c.args.from 16 c.first_set.result 0 c.requires counted);
      within = run_in_chunk_le stops bytes c.args.from 16 c.first_set.result 0 c.requires counted;
    }
