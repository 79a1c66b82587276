use Rattle.std.proofs.Common.{subst}
use Rattle.v7_damage.specs.declared.damage.RepairFault.{RepairFault}
use Rattle.v7_damage.specs.declared.damage.RepairFault.TheVariants.{Damaged}
use Rattle.v7_repair.specs.Leaves.{LeavesFault}
use Rattle.volume.proofs.Resting.{fault_weak, rest_damaged}
use Rattle.volume.proofs.mounted.Volume.mend.Goals as goal

pub returns-in-Err-Damaged-clause-rest : goal.returns-in-Err-Damaged-clause-rest
returns-in-Err-Damaged-clause-rest g c =
    let S = g.S.Stable in
    let old = c.args.self.now in
    let mended = c.in-Err-Damaged in
    let left : S.tells → LeavesFault (S.image old.store) (S.image c.repair.new.store) (Damaged mended.field-0-0 mended.field-0-1) =
    λ told. subst (λ (why : RepairFault). LeavesFault (S.image old.store) (S.image c.repair.new.store) why) mended.field-0-is (mended.ensures.leaves told) in
    rest_damaged S.tells (S.image old.store) (S.image c.repair.new.store) (S.sector_count old.store) (S.sector_count c.repair.new.store) old.hurt old.sets
    (λ told. fault_weak (S.image old.store) mended.field-0-0 mended.field-0-1 (c.requires.rest.weak told) (left told).0) mended.ensures.run.puts.sectors c.requires.rest
