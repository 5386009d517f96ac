-- This file has the law that the order of results is total.
-- Main lemma: `result_order_total`.
--     result_order_total     the order `result_order` is total
use Rattle.std.specs.Cmp.{IsTotalOrder, nat_cmp_total, on_total, then_total}
use Rattle.std.specs.Cmp.Lexicographic.{nat_list_cmp_total}
use Rattle.ptb_chances.specs.Chances.{RunResult, rank, result_order}

pub result_order_total : IsTotalOrder result_order
result_order_total = then_total (on_total (λ (r : RunResult). rank r.ending) nat_cmp_total)
    (on_total (λ (r : RunResult). r.line) nat_list_cmp_total)
