-- A SETATTR: planned, put, or neither.
use Rattle.std.proofs.Common.{◌≡◌, ℕ, ◌<◌, ◌≤◌, Bool, true, false, List, length, refl, sym, subst, arith}
use Rattle.files_model.specs.declared.attributes.FileId.{FileId}
use Rattle.files_model.specs.declared.attributes.Sattr.{Sattr}
use Rattle.files_model.specs.declared.call.Call.TheVariants.{Setattr}
use Rattle.files_model.specs.declared.credential.Cred.{Cred}
use Rattle.files_model.specs.declared.reply.Reply.{Reply}
use Rattle.files_model.specs.declared.reply.Reply.TheVariants as reply
use Rattle.index_sets.specs.Free.{is_free}
use Rattle.plan_file.specs.Planned.{IsWriteReply}
use Rattle.plan_file.specs.Set.{IsPlannedSet, given}
use Rattle.stable.specs.Puts.{put_all}
use Rattle.stable.specs.Store.{Image}
use Rattle.v7_map.specs.Frame.{frame}
use Rattle.v7_map.specs.Weak.{IsWeak, IsStrong}
use Rattle.v7_make.specs.Chains.{FitStore}
use Rattle.v7_sets.specs.Sets.{AreSetsOf}
use Rattle.v7_sets.specs.declared.sets.Sets.{Sets}
use Rattle.volume.specs.declared.outcome.Outcome.TheVariants as outcome
use Rattle.volume.specs.Applied.{HasForm, Hurts}
use Rattle.volume.specs.Rests.{IsAtRest}
use Rattle.volume.proofs.Committing.{put_planned}
use Rattle.volume.proofs.HasVolume.{frame-sectors}

pub set_form : (file : FileId) (wanted : Sattr) (r : Reply) → IsWriteReply r → HasForm (Setattr file wanted) r
set_form file wanted (reply.Refused status) is = tt
set_form file wanted (reply.Attr attr) is = tt
set_form file wanted _ is = absurd is

-- all of the plan was put, and what it frees was given back
pub rest_set : (tells : Type 0) (old mid new : Image) (sectors sectors' : ℕ) (sets : Sets) (blocks : List Bool) (file : FileId) (wanted : Sattr) (cred : Cred) (now : ℕ) (puts : List (ℕ × List ℕ)) (r : Reply) (freed : List ℕ)
    → mid ≡ old → sectors' ≡ sectors → (tells → length old ≡ sectors) → IsAtRest tells old sectors false sets → (tells → IsPlannedSet old file wanted cred now puts r freed) → (tells → new ≡ put_all puts mid)
    → (length sets.blocks ≤ sectors → blocks ≡ given freed sets.blocks) → (((b : ℕ) → is_free sets.blocks b ≡ true → b < sectors) → (b : ℕ) → is_free blocks b ≡ true → b < sectors)
    → IsAtRest tells new sectors' false (record { blocks = blocks; inodes = sets.inodes })
rest_set tells old mid new sectors sectors' sets blocks file wanted cred now puts r freed same as_many long rest planned all back within = record {
  fits = subst (λ (n : ℕ). FitStore n blocks sets.inodes) (sym as_many) (record { two = rest.fits.two; within = within rest.fits.within; numbers = rest.fits.numbers });
  weak = λ told. subst (λ (x : Image). IsWeak (frame x)) (sym (is told)) (planned told).plan.strong.weak;
  strong = λ told _. subst (λ (x : Image). IsStrong (frame x)) (sym (is told)) (planned told).plan.strong;
  are_sets = λ told _. subst (λ (x : Image). AreSetsOf x blocks sets.inodes) (sym (is told))
      (subst (λ (l : List Bool). AreSetsOf (put_all puts old) l sets.inodes) (sym (back (room told))) ((planned told).sets sets.blocks sets.inodes (rest.are_sets told refl)));
}
  where
    is : tells → new ≡ put_all puts old
    is told = put_planned puts old mid new same (all told)

    room : tells → length sets.blocks ≤ sectors
    room told =
        let has = (rest.are_sets told refl).blocks_room in
        let end = (rest.weak told).sizes.within in
        let all = frame-sectors old in
        let many = long told in
        omega (arith, has, end, all, many)

-- a failed one hurts its volume
pub set_hurts : (file : FileId) (wanted : Sattr) → Hurts (Setattr file wanted) outcome.Io false true
set_hurts file wanted = ((λ change. refl), (λ idle sound. absurd (cc)))
