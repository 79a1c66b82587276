use Rattle.std.proofs.Common.{◌≡◌, ◌≤◌, length}
use Rattle.plan_file.specs.Layout.{ArePlaced}
use Rattle.plan_file.proofs.layout.place_body.Given as goal

abbrev pub invariant-loop-index : goal.invariant-loop-index
invariant-loop-index l = record {
  placed : ArePlaced l.blocks l.body l.held l.placed l.index l.from;
  small : l.from ≤ 1048576;
  long : length l.placed ≡ 138;
}
