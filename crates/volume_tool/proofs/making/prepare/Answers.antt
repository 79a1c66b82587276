use Rattle.std.proofs.Common.{arith, ◌≡◌, inl}
use Rattle.nvram_map.proofs.Shapes.{shape_now}
use Rattle.presto_recover.proofs.Emptied.{bare_read}
use Rattle.volume_tool.proofs.making.prepare.Goals as goal

pub returns-then-buffers-eq0-clause-ready : goal.returns-then-buffers-eq0-clause-ready
returns-then-buffers-eq0-clause-ready g c =
    let r = g.R.Rig in
    let law = g.met.R.Rig in
    let rig = c.args.rig.now in
    let none : (r.sizes rig).buffers ≡ 0 = omega (arith, c.buffers.ensures, c.if-buffers-eq0.true) in
    record {
      kept = (law.board rig).no_loss none;
      read = λ tells. bare_read (r.sizes rig) (r.is_kept rig) (r.contents rig) (shape_now law.clocked law.shape rig tells) (law.board rig) none (omega (arith, c.sectors-sectors.ensures));
      opens = λ tells. inl none;
      titled = λ tells some. absurd (omega (arith, none, some));
    }
