use Rattle.std.proofs.Common.{sym, ap, ◌∙◌, length}
use Rattle.index_sets.proofs.SetBits.{length-free}
use Rattle.index_sets.proofs.free_set.FreeSet.size.Goals as goal

pub returns : goal.returns
returns c = sym (ap length (sym c.self.view_is) ∙ length-free c.self.inside.words.items c.self.inside.size)
