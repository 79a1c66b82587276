use Rattle.std.proofs.Common.{◌≡◌, ◌++◌}
use Rattle.std.specs.List.{range_with_len}
use Rattle.stable.specs.Looked.{Looked}
use Rattle.plan_file.specs.Accepted.{kept_of}
use Rattle.plan_file.specs.Contents.{content_puts, touched_below, Fits}
use Rattle.plan_file.proofs.filling.add_contents.Given as goal

abbrev pub invariant-loop-index : goal.invariant-loop-index
invariant-loop-index g l =
    let S = g.S.Stable in
    record {
      added : S.tells → l.plan.puts ≡ l.fn.plan.puts ++ content_puts (S.image l.fn.store) l.size l.places.body l.target.body (kept_of l.batch l.replies) (range_with_len 0 l.index);
      fits : Fits (S.sector_count l.fn.store) (touched_below (kept_of l.batch l.replies) l.index) l.fn.plan l.plan;
      looked : Looked S l.fn.store l.store;
    }
