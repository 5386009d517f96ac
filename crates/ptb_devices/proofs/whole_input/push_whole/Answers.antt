-- This file answers what is left to prove of `push_whole`.
use Rattle.std.proofs.Common.{◌≡◌, List, ℕ, [], ◌∷◌, ◌++◌, refl, ap, ◌∙◌}
use Rattle.ptb_devices.specs.CutLines.{kept_bytes}
use Rattle.ptb_devices.proofs.CutLines.{AddsUpTo_more, AddsUpTo_all}
use Rattle.ptb_devices.proofs.whole_input.push_whole.Goals as goal

pub loop-count-preserved : goal.loop-count-preserved
loop-count-preserved c =
    let pushed : c.push.new.self.items ≡ c.loop-count.lines.items ++ kept_bytes c.take_line.new.self ∷ [] =
    c.in_ok-push.ensures.items ∙ ap (λ (l : List ℕ). c.loop-count.lines.items ++ l ∷ [])
    (c.in_ok-from_kept.ensures ∙ c.kept.ensures.value) in
    rw (pushed, c.clear.ensures) (AddsUpTo_more _ _ _ _ _ _ _ _ _ refl c.loop-count.invariant c.in-Some.ensures.whole)

pub returns : goal.returns
returns c = AddsUpTo_all _ _ _ _ _ _ _ c.loop-count.invariant c.in_default.ensures.part
