use Rattle.std.proofs.Common.{◌≡◌, ◌<◌, ◌≤◌, ℕ, true, length, take}
use Rattle.index_sets.specs.Free.{is_free}
use Rattle.plan_file.specs.Set.{given}
use Rattle.volume.proofs.giving.give_back.Given as goal

abbrev pub invariant-loop-block : goal.invariant-loop-block
invariant-loop-block l = record {
  given : length l.fn.blocks ≤ l.sectors → l.blocks ≡ given (take l.block-index l.freed) l.fn.blocks;
  within : ((b : ℕ) → is_free l.fn.blocks b ≡ true → b < l.sectors) → (b : ℕ) → is_free l.blocks b ≡ true → b < l.sectors;
}
