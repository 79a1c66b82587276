-- A call on names that is carried out.
use Rattle.std.proofs.Common.{◌≡◌, ℕ, ◌<◌, ◌≤◌, Bool, true, false, List, [], ◌∷◌, length, length-set, Option, Some, None, refl, sym, ap, ◌∙◌, subst, arith}
use Rattle.files_model.specs.declared.attributes.FileId.{FileId}
use Rattle.files_model.specs.declared.attributes.Sattr.{Sattr}
use Rattle.files_model.specs.declared.call.Call.{Call}
use Rattle.files_model.specs.declared.call.Call.TheVariants.{Create, Remove}
use Rattle.files_model.specs.declared.credential.Cred.{Cred}
use Rattle.files_model.specs.declared.reply.Reply.{Reply}
use Rattle.files_model.specs.declared.reply.Reply.TheVariants as reply
use Rattle.files_model.specs.Step.{is_change}
use Rattle.files_model.specs.Torn.{Asked}
use Rattle.index_sets.specs.Free.{is_free}
use Rattle.plan_name.specs.Created.{IsHandleReply}
use Rattle.plan_name.specs.Freeing.{IsDoneReply}
use Rattle.plan_name.specs.Planned.{IsPlannedCall, TakesFrom, number_back}
use Rattle.plan_name.specs.declared.planned.Planned.{Planned}
use Rattle.stable.specs.Counts.{Rose}
use Rattle.stable.specs.Looked.{Looked}
use Rattle.stable.specs.Moments.{IsClocked, LeavesOnly}
use Rattle.stable.specs.Puts.{put_all, AfterSome, AllPastSuperBlock}
use Rattle.stable.specs.Store.{Image}
use Rattle.stable.specs.declared.store.Stable.{Ghosts}
use Rattle.stable.proofs.Clocked.{weaker}
use Rattle.v7_make.specs.Chains.{FitStore}
use Rattle.v7_map.specs.Frame.{frame}
use Rattle.v7_map.specs.Plans.{IsPlanOf, IsTornImage}
use Rattle.v7_map.specs.View.{view}
use Rattle.v7_map.specs.Weak.{IsWeak, IsStrong}
use Rattle.v7_sets.specs.Given.{given}
use Rattle.v7_sets.specs.Sets.{AreSetsOf}
use Rattle.v7_sets.specs.declared.sets.Sets.{Sets}
use Rattle.volume.specs.declared.outcome.Outcome.{Outcome}
use Rattle.volume.specs.declared.outcome.Outcome.TheVariants as outcome
use Rattle.volume.specs.Applied.{Applies, HasForm, hurts}
use Rattle.volume.specs.Keeps.{SameName, SameVolume}
use Rattle.volume.specs.Rests.{IsAtRest}
use Rattle.volume.proofs.Applying.{torn_same}
use Rattle.volume.proofs.Committing.{torn_planned}
use Rattle.volume.proofs.GivenBack.{length-given}
use Rattle.volume.proofs.HasVolume.{frame-sectors}
use Rattle.volume.proofs.Naming.{name_same, name_planned}
use Rattle.volume.proofs.Resting.{applies_then}

-- what a look planned is planned on what it left
pub planned_looked : (old mid : Image) (asked : Asked) (now : ℕ) (left : Sets) (made : Planned) → mid ≡ old → IsPlannedCall old asked now left made → IsPlannedCall mid asked now left made
planned_looked old mid asked now left made same planned = subst (λ (x : Image). IsPlannedCall x asked now left made) (sym same) planned

-- ---- the sets

length-number_back : (number : Option ℕ) (inodes : List Bool) → length (number_back number inodes) ≡ length inodes
length-number_back None inodes = refl
length-number_back (Some i) inodes = length-set inodes i true

-- with what a plan took they fit as well
pub fewer_fit : (sectors sectors' : ℕ) (old new : Sets) → sectors' ≡ sectors → TakesFrom old new → FitStore sectors old.blocks old.inodes → FitStore sectors' new.blocks new.inodes
fewer_fit sectors sectors' old new as_many takes fit = subst (λ (n : ℕ). FitStore n new.blocks new.inodes) (sym as_many) (record {
  two = fit.two;
  within = λ b free. fit.within b (takes.blocks b free);
  numbers = (let long = takes.numbers in let few = fit.numbers in omega (arith, long, few));
})

module _ (tells : Type 0) (old new : Image) (sectors sectors' : ℕ) (sets : Sets) (asked : Asked) (now : ℕ) (made : Planned) (as_many : sectors' ≡ sectors) (fit : FitStore sectors sets.blocks sets.inodes) (planned : tells → IsPlannedCall old asked now sets made) where
  -- all of the plan was put, and what it frees was given back
  pub rest_given : (blocks inodes : List Bool) → (tells → length new ≡ sectors') → (tells → new ≡ put_all made.plan.puts old)
      → (length sets.blocks ≤ sectors → blocks ≡ given made.freed.blocks.items sets.blocks) → (((b : ℕ) → is_free sets.blocks b ≡ true → b < sectors) → (b : ℕ) → is_free blocks b ≡ true → b < sectors)
      → inodes ≡ number_back made.freed.inode sets.inodes → IsAtRest tells new sectors' false (record { blocks = blocks; inodes = inodes })
  rest_given blocks inodes long all back within number = record {
    fits = subst (λ (n : ℕ). FitStore n blocks inodes) (sym as_many) (record {
      two = fit.two;
      within = within fit.within;
      numbers = (let as_before = ap length number ∙ length-number_back made.freed.inode sets.inodes in let few = fit.numbers in omega (arith, as_before, few));
    });
    weak = λ told. (strong told).weak;
    strong = λ told _. strong told;
    are_sets = λ told _. subst (λ (x : Image). AreSetsOf x blocks inodes) (sym (all told)) (by_blocks told (by_number told));
  }
    where
      strong : tells → IsStrong (frame new)
      strong told = subst (λ (x : Image). IsStrong (frame x)) (sym (all told)) (planned told).plan.strong

      room : tells → length sets.blocks ≤ sectors
      room told =
          let has = (planned told).sets.blocks_room in
          let kept = length-given made.freed.blocks.items sets.blocks in
          let end = (planned told).plan.strong.weak.sizes.within in
          let all_of = frame-sectors (put_all made.plan.puts old) in
          let same = ap length (all told) in
          let many = long told in
          omega (arith, has, kept, end, all_of, same, many, as_many)

      by_number : tells → AreSetsOf (put_all made.plan.puts old) (given made.freed.blocks.items sets.blocks) inodes
      by_number told = subst (λ (l : List Bool). AreSetsOf (put_all made.plan.puts old) (given made.freed.blocks.items sets.blocks) l) (sym number) (planned told).sets

      by_blocks : tells → AreSetsOf (put_all made.plan.puts old) (given made.freed.blocks.items sets.blocks) inodes → AreSetsOf (put_all made.plan.puts old) blocks inodes
      by_blocks told sets_are = subst (λ (l : List Bool). AreSetsOf (put_all made.plan.puts old) l inodes) (sym (back (room told))) sets_are

  -- some of it was put, by a call that changes files
  pub rest_hurt : (call : Call) → is_change call ≡ true → (tells → AfterSome made.plan.puts old new) → IsAtRest tells new sectors' (hurts call outcome.Io) sets
  rest_hurt call changes some = subst (λ (b : Bool). IsAtRest tells new sectors' b sets) (sym changes) (record {
    fits = subst (λ (n : ℕ). FitStore n sets.blocks sets.inodes) (sym as_many) fit;
    weak = λ told. (torn_planned old (asked ∷ []) now made.plan.puts (planned told).plan old new refl (some told)).weak;
    strong = λ told not. absurd (cc);
    are_sets = λ told not. absurd (cc);
  })

-- ---- what is left

module _ {S : Type 0} (s : Ghosts S) (clocked : IsClocked s.tells s.image s.moment s.left_since) (call : Call) (cred : Cred) (now : ℕ) (old new : S) where
  module _ (puts : List (ℕ × List ℕ)) (past : AllPastSuperBlock puts) (plan : s.tells → IsPlanOf (s.image old) ((call, cred) ∷ []) now puts) where
    -- a moment of a plan that is put
    abbrev pub IsTornMoment : Image → Type 0
    IsTornMoment d = IsTornImage (view (s.image old)) ((call, cred) ∷ []) now d × SameName (s.image old) d

    pub crash_put : LeavesOnly s.moment s.left_since old new (AfterSome puts (s.image old)) → LeavesOnly s.moment s.left_since old new IsTornMoment
    crash_put run = weaker run (λ d left some. (
      torn_planned (s.image old) ((call, cred) ∷ []) now puts (plan (clocked.told new (s.moment old) d left)) (s.image old) d refl some,
      name_planned puts (s.image old) (s.image old) d refl past some,
    ))

  -- the same volume, at each moment of a look
  looked_same : (s.tells → IsWeak (frame (s.image old))) → Looked s old new → LeavesOnly s.moment s.left_since old new (SameVolume (s.image old))
  looked_same weak looked = weaker looked.crash (λ d left same. record {
    files = record { weak = subst (λ (x : Image). IsWeak (frame x)) (sym same) (weak (clocked.told new (s.moment old) d left)); view = ap view same };
    name = name_same (s.image old) d same;
  })

  -- a call that looked and failed
  pub applies_failed : (s.tells → IsWeak (frame (s.image old))) → Looked s old new → Rose (s.faults old) (s.faults new) → Applies s old new false (hurts call outcome.Io) call cred now outcome.Io
  applies_failed weak looked rose = record {
    leaves = λ told. (torn_same ((call, cred) ∷ []) now (s.image old) (s.image new) looked.image (weak told)).torn;
    hurts = ((λ change. change), (λ idle sound. idle));
    form = tt;
    cause = (looked.later, rose);
    crash = weaker looked.crash (λ d left same. record { files = torn_same ((call, cred) ∷ []) now (s.image old) d same (weak (clocked.told new (s.moment old) d left)); name = name_same (s.image old) d same });
  }

-- a call that looked first
module _ {S : Type 0} (s : Ghosts S) (clocked : IsClocked s.tells s.image s.moment s.left_since) (call : Call) (cred : Cred) (now : ℕ) (old mid new : S) where
  pub applies_looked : (is : Bool) (o : Outcome) → (s.tells → IsWeak (frame (s.image old))) → Looked s old mid → Applies s mid new false is call cred now o → Applies s old new false is call cred now o
  applies_looked is o weak looked made = applies_then s clocked old mid new false is call cred now o (looked_same s clocked call cred now old mid weak looked) looked.later made
