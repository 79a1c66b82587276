use Rattle.std.proofs.Common.{◌∙◌, ap, Some, false}
use Rattle.stable.proofs.Clocked.{ends}
use Rattle.presto_cache.specs.Slots.{settled}
use Rattle.presto_cache.specs.declared.slot.Slot.{Slot}
use Rattle.presto_cache.specs.declared.slot.Slot.TheVariants.{Doubt}
use Rattle.presto_cache.proofs.Known.{slots_known}
use Rattle.presto_cache.proofs.Filling.{unfilled, unnamed, named, fill_run, word_run}
use Rattle.presto_cache.proofs.fill.fill.Goals as goal

pub returns-in-Err-clause-told : goal.returns-in-Err-clause-told
returns-in-Err-clause-told g c tells =
    let law = g.met.R.Rig in
    let known = slots_known g.R.Rig law.clocked law.shape law.kept_told law.board c.requires.knows tells in
    unfilled known c.requires.fill c.args.bytes.now _ c.slot_at-was.ensures _ (ends law.clocked c.store_buffer.ensures.crash tells)

pub returns-in-Err-clause-crash : goal.returns-in-Err-clause-crash
returns-in-Err-clause-crash g c =
    let law = g.met.R.Rig in
    fill_run g.R.Rig law.clocked (slots_known g.R.Rig law.clocked law.shape law.kept_told law.board c.requires.knows) c.requires.fill c.args.bytes.now c.store_buffer.ensures.crash

pub returns-in-Ok-store_word-clause-told : goal.returns-in-Ok-store_word-clause-told
returns-in-Ok-store_word-clause-told g c tells =
    let law = g.met.R.Rig in
    let known = slots_known g.R.Rig law.clocked law.shape law.kept_told law.board c.requires.knows tells in
    named known c.requires.fill c.args.bytes.now c.entry_word.ensures (c.in-Ok.ensures.done tells) _ _ (c.in-Ok-store_word.ensures.done tells)

pub returns-in-Ok-store_word-clause-crash : goal.returns-in-Ok-store_word-clause-crash
returns-in-Ok-store_word-clause-crash g c =
    let law = g.met.R.Rig in
    word_run g.R.Rig law.clocked (slots_known g.R.Rig law.clocked law.shape law.kept_told law.board c.requires.knows) c.requires.fill c.args.bytes.now
    c.store_buffer.ensures.crash _ c.entry_word.ensures c.in-Ok.ensures.done c.store_word.ensures.crash

pub returns-in-Err-store_word-clause-told : goal.returns-in-Err-store_word-clause-told
returns-in-Err-store_word-clause-told g c tells =
    let law = g.met.R.Rig in
    let known = slots_known g.R.Rig law.clocked law.shape law.kept_told law.board c.requires.knows tells in
    unnamed known c.requires.fill c.args.bytes.now c.entry_word.ensures (c.in-Ok.ensures.done tells) _
    (c.doubted.ensures ∙ ap (λ (s : Slot). Doubt c.args.sector (settled s) (Some c.args.buffer) false) c.slot_at-was.ensures) _ (ends law.clocked c.store_word.ensures.crash tells)

pub returns-in-Err-store_word-clause-crash : goal.returns-in-Err-store_word-clause-crash
returns-in-Err-store_word-clause-crash g c =
    let law = g.met.R.Rig in
    word_run g.R.Rig law.clocked (slots_known g.R.Rig law.clocked law.shape law.kept_told law.board c.requires.knows) c.requires.fill c.args.bytes.now
    c.store_buffer.ensures.crash _ c.entry_word.ensures c.in-Ok.ensures.done c.store_word.ensures.crash
