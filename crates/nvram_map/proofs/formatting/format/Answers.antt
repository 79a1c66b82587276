use Rattle.std.proofs.Common.{subst, sym, ap, ◌∙◌}
use Rattle.rig.specs.Devices.{Devices}
use Rattle.nvram_map.specs.Overlay.{overlay}
use Rattle.nvram_map.specs.Words.{name_word, IsBoardOf}
use Rattle.nvram_map.proofs.Freeing.{named_step, marked_step, named_run, marked_run, formatted_board, formatted_image}
use Rattle.nvram_map.proofs.formatting.format.Goals as goal

pub returns-in_err-store_word-clause-crash : goal.returns-in_err-store_word-clause-crash
returns-in_err-store_word-clause-crash g c =
    named_run g.R.Rig g.met.R.Rig.clocked (name_word c.args.volume) c.free_entries.ensures.crash c.in_ok-free_entries.ensures.done c.read_u48.ensures c.store_word.ensures.crash

pub returns-in_err-store_word-2-clause-crash : goal.returns-in_err-store_word-2-clause-crash
returns-in_err-store_word-2-clause-crash g c =
    marked_run g.R.Rig g.met.R.Rig.clocked (name_word c.args.volume) c.free_entries.ensures.crash c.in_ok-free_entries.ensures.done c.read_u48.ensures c.store_word.ensures.crash c.in_ok-store_word.ensures.done c.store_word-2.ensures.crash

pub returns-clause-crash : goal.returns-clause-crash
returns-clause-crash g c =
    marked_run g.R.Rig g.met.R.Rig.clocked (name_word c.args.volume) c.free_entries.ensures.crash c.in_ok-free_entries.ensures.done c.read_u48.ensures c.store_word.ensures.crash c.in_ok-store_word.ensures.done c.store_word-2.ensures.crash

pub returns-clause-done : goal.returns-clause-done
returns-clause-done g c tells =
    let R = g.R.Rig in
    let old : Devices = R.contents c.args.rig.now in
    let freed : Devices = R.contents c.free_entries.new.rig in
    let named : Devices = R.contents c.store_word.new.self in
    marked_step (name_word c.args.volume) old named (R.contents c.store_word-2.new.self)
    (named_step (name_word c.args.volume) old freed named c.read_u48.result c.read_u48.ensures (c.in_ok-free_entries.ensures.done tells) (c.in_ok-store_word.ensures.done tells)) (c.in_ok-store_word-2.ensures.done tells)

pub returns-clause-board : goal.returns-clause-board
returns-clause-board g c tells =
    let R = g.R.Rig in
    subst (IsBoardOf (R.sizes c.args.rig.now) (name_word c.args.volume)) (sym (returns-clause-done g c tells)) (formatted_board (name_word c.args.volume) (R.contents c.args.rig.now) (R.sizes c.args.rig.now))

pub returns-clause-image : goal.returns-clause-image
returns-clause-image g c tells =
    let R = g.R.Rig in
    ap overlay (returns-clause-done g c tells) ∙ formatted_image (name_word c.args.volume) (R.contents c.args.rig.now)
