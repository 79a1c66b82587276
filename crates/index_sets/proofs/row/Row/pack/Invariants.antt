use Rattle.std.proofs.Common.{◌≡◌}
use Rattle.index_sets.specs.Row.{IsPacking, listed_in}
use Rattle.index_sets.proofs.row.Row.pack.Given as goal

abbrev pub invariant-loop-from : goal.invariant-loop-from
invariant-loop-from l = record {
  packing : IsPacking l.self l.to l.from;
  listed : listed_in l.self ≡ listed_in l.fn.self;
  size : l.self.size ≡ l.fn.self.size;
  end : l.self.end ≡ l.fn.self.end;
}
