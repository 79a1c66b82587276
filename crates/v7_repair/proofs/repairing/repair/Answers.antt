use Rattle.std.proofs.Common.{arith, ◌≡◌, ◌∙◌, inr, refl, sym, subst}
use Rattle.stable.specs.Store.{Image}
use Rattle.stable.proofs.Looking.{looks_again}
use Rattle.v7_damage.specs.Undamaged.{IsUndamaged}
use Rattle.v7_damage.specs.declared.tested.Undamaged.{Undamaged}
use Rattle.v7_inspect.specs.Judged.{IsJudged}
use Rattle.v7_inspect.specs.declared.judged.Judged.{Judged}
use Rattle.v7_mend.specs.Changes.{Differ, MayChange}
use Rattle.v7_mend.specs.Repairs.{CanMend, IsMended}
use Rattle.v7_repair.specs.Free.{AreLeft}
use Rattle.v7_sets.specs.declared.sets.Sets.{Sets}
use Rattle.v7_repair.proofs.Looks.{run_looked, run_failed, run_done, kept_by}
use Rattle.v7_repair.proofs.Mends.{can_mend, few_puts, fits_store, is_repaired}
use Rattle.v7_repair.proofs.repairing.repair.Goals as goal

pub returns-in-Err-clause-run : goal.returns-in-Err-clause-run
returns-in-Err-clause-run g c =
    let S = g.S.Stable in
    run_looked S g.met.S.Stable.clocked g.met.S.Stable.counted {T = Undamaged} c.args.store.now c.find_damage.new.store c.in-Err.fault c.in-Err.ensures.looked c.in-Err.ensures.cause

pub returns-in-Err-judge_inodes-clause-run : goal.returns-in-Err-judge_inodes-clause-run
returns-in-Err-judge_inodes-clause-run g c =
    let S = g.S.Stable in
    let first = c.in-Ok.ensures.looked in
    let look = looks_again S g.met.S.Stable.clocked first c.in-Err-judge_inodes.ensures.looked in
    run_looked S g.met.S.Stable.clocked g.met.S.Stable.counted {T = Judged} c.args.store.now c.judge_inodes.new.store c.in-Err-judge_inodes.fault look
    (λ failed. let rose = c.in-Err-judge_inodes.ensures.cause failed in let later = first.later in omega (arith, rose, later))

pub returns-in-Err-find_free-clause-run : goal.returns-in-Err-find_free-clause-run
returns-in-Err-find_free-clause-run g c =
    let S = g.S.Stable in
    let first = looks_again S g.met.S.Stable.clocked c.in-Ok.ensures.looked c.in-Ok-judge_inodes.ensures.looked in
    let look = looks_again S g.met.S.Stable.clocked first c.in-Err-find_free.ensures.looked in
    run_looked S g.met.S.Stable.clocked g.met.S.Stable.counted {T = Sets} c.args.store.now c.find_free.new.store c.in-Err-find_free.fault look
    (λ failed. let rose = c.in-Err-find_free.ensures.cause failed in let later = first.later in omega (arith, rose, later))

pub seen_of-requires : goal.seen_of-requires
seen_of-requires g c = let e = c.in-Ok.ensures.tables in record { some = e.some; few = e.few; counts = e.counts; summaries = e.summaries }

pub mend-requires-clause-found : goal.mend-requires-clause-found
mend-requires-clause-found g c = λ tells.
    let S = g.S.Stable in
    let image : Image = S.image c.args.store.now in
    let known : Undamaged = c.in-Ok.known in
    let is : IsUndamaged image known = c.in-Ok.ensures.tested tells in
    let same : S.image c.find_free.new.store ≡ image = c.in-Ok-find_free.ensures.looked.image ∙ c.in-Ok-judge_inodes.ensures.looked.image ∙ c.in-Ok.ensures.looked.image in
    subst (λ (x : Image). CanMend x known.super_block.s_isize c.deref.result.now) (sym same) (can_mend image known c.deref.result.now is c.in-Ok.ensures.tables.counts c.deref.ensures.value)

pub returns-in-Err-mend-clause-leaves : goal.returns-in-Err-mend-clause-leaves
returns-in-Err-mend-clause-leaves g c = λ tells.
    let S = g.S.Stable in
    let clocked = g.met.S.Stable.clocked in
    let first = looks_again S clocked c.in-Ok.ensures.looked c.in-Ok-judge_inodes.ensures.looked in
    let look = looks_again S clocked first c.in-Ok-find_free.ensures.looked in
    inr (kept_by S clocked g.met.S.Stable.counted look c.in-Err-mend.ensures.puts tells)

pub returns-in-Err-mend-clause-run : goal.returns-in-Err-mend-clause-run
returns-in-Err-mend-clause-run g c =
    let S = g.S.Stable in
    let clocked = g.met.S.Stable.clocked in
    let first = looks_again S clocked c.in-Ok.ensures.looked c.in-Ok-judge_inodes.ensures.looked in
    let look = looks_again S clocked first c.in-Ok-find_free.ensures.looked in
    run_failed S clocked g.met.S.Stable.counted c.in-Err-mend.field-0 (few_puts c.in-Ok.known (S.sector_count c.args.store.now) c.in-Ok.ensures.tables) look c.in-Err-mend.ensures.puts

pub returns-clause-leaves : goal.returns-clause-leaves
returns-clause-leaves g c = λ tells.
    let S = g.S.Stable in
    let clocked = g.met.S.Stable.clocked in
    let old : Image = S.image c.args.store.now in
    let new : Image = S.image c.mend.new.store in
    let known : Undamaged = c.in-Ok.known in
    let judged : Judged = c.in-Ok-judge_inodes.judged in
    let is : IsUndamaged old known = c.in-Ok.ensures.tested tells in
    let first = looks_again S clocked c.in-Ok.ensures.looked c.in-Ok-judge_inodes.ensures.looked in
    let look = looks_again S clocked first c.in-Ok-find_free.ensures.looked in
    let judges : IsJudged old judged =
    subst (λ (x : Image). IsJudged x judged) c.in-Ok.ensures.looked.image (c.in-Ok-judge_inodes.ensures.judged tells (subst (λ (x : Image). IsUndamaged x known) (sym c.in-Ok.ensures.looked.image) is)) in
    let left : AreLeft old judged.needed c.in-Ok-find_free.sets =
    subst (λ (x : Image). AreLeft x judged.needed c.in-Ok-find_free.sets) first.image (c.in-Ok-find_free.ensures.left tells (subst (λ (x : Image). IsUndamaged x known) (sym first.image) is)) in
    is_repaired old new known judged c.deref.result.now c.seen_of.result _ is judges c.in-Ok-judge_inodes.ensures.length left c.in-Ok-find_free.ensures.room (c.seen_of.ensures old is) refl
    (subst (λ (x : Image). IsMended x new c.deref.result.now) look.image (c.in-Ok-mend.ensures.mended tells))
    (subst (λ (x : Image). Differ (MayChange x) x new c.in-Ok-mend.changed) look.image (c.in-Ok-mend.ensures.exact tells))
    (kept_by S clocked g.met.S.Stable.counted look c.in-Ok-mend.ensures.puts tells).super

pub returns-clause-fits : goal.returns-clause-fits
returns-clause-fits g c = fits_store c.in-Ok.known (g.S.Stable.sector_count c.args.store.now) c.in-Ok.ensures.tables c.in-Ok-find_free.sets c.in-Ok-find_free.ensures.room

pub returns-clause-run : goal.returns-clause-run
returns-clause-run g c =
    let S = g.S.Stable in
    let clocked = g.met.S.Stable.clocked in
    let first = looks_again S clocked c.in-Ok.ensures.looked c.in-Ok-judge_inodes.ensures.looked in
    let look = looks_again S clocked first c.in-Ok-find_free.ensures.looked in
    run_done S clocked g.met.S.Stable.counted _ (few_puts c.in-Ok.known (S.sector_count c.args.store.now) c.in-Ok.ensures.tables) look c.in-Ok-mend.ensures.puts
