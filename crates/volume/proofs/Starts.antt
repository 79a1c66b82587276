-- A volume that is opened: mended, marked, and read.
use Rattle.std.proofs.Common.{◌≡◌, ℕ, ◌+◌, ◌≤◌, sym, ap, ◌∙◌, subst, inl, inr, arith}
use Rattle.stable.specs.Moments.{IsClocked, LeavesOnly}
use Rattle.stable.specs.States.{ArePuts, SomePuts}
use Rattle.stable.specs.Store.{Image, name_in}
use Rattle.stable.specs.declared.snapshot.Snapshot.{Snapshot}
use Rattle.stable.specs.declared.store.Stable.{Ghosts}
use Rattle.stable.proofs.Clocked.{goes_on, weaker}
use Rattle.stable.proofs.Counted.{made_then, wider_made}
use Rattle.v7_map.specs.Frame.{Frame}
use Rattle.v7_map.specs.Weak.{IsWeak}
use Rattle.v7_repair.specs.Leaves.{IsRepaired, MayMend}
use Rattle.v7_repair.specs.Runs.{repair_puts}
use Rattle.v7_repair.specs.declared.mended.Mended.{Mended}
use Rattle.volume.specs.Keeps.{MayOpen, SameVolume}
use Rattle.volume.specs.Marks.{IsMarked, MayMark}
use Rattle.volume.proofs.OpenMarks.{marked_name}

-- a moment of a mend is one of an opening
open_mend : (old d : Image) → MayMend old d → MayOpen old d
open_mend old d (inl same) = inl same
open_mend old d (inr keeps) = inr (record { files = keeps.files; name = ap name_in keeps.super })

module _ (old mid : Image) (mended : Mended) (is : IsRepaired old mid mended) where
  -- what is mended is the same volume
  volume_mid : SameVolume old mid
  volume_mid = record { files = record { weak = is.repairs.strong.weak; view = is.repairs.view }; name = ap name_in is.super }

  module _ (now : ℕ) where
    volume_marked : (d : Image) → IsMarked mid d now → SameVolume old d
    volume_marked d marked = record {
      files = record { weak = subst (λ (f : Frame). IsWeak f) (sym marked.frame) is.repairs.strong.weak; view = marked.view ∙ is.repairs.view };
      name = marked_name mid d now marked ∙ volume_mid.name;
    }

    open_mark : (d : Image) → MayMark mid now d → MayOpen old d
    open_mark d (inl same) = inr (subst (λ (x : Image). SameVolume old x) (sym same) volume_mid)
    open_mark d (inr marked) = inr (volume_marked d marked)

-- ---- the run

module _ {S : Type 0} (s : Ghosts S) (clocked : IsClocked s.tells s.image s.moment s.left_since) where
  -- the mend, and then the mark
  pub crash_marked : (old mid new : S) (mended : Mended) (now : ℕ) → LeavesOnly s.moment s.left_since old mid (MayMend (s.image old)) → (s.tells → IsRepaired (s.image old) (s.image mid) mended)
      → LeavesOnly s.moment s.left_since mid new (MayMark (s.image mid) now) → LeavesOnly s.moment s.left_since old new (MayOpen (s.image old))
  crash_marked old mid new mended now mend is mark =
      goes_on (weaker mend (λ d left so. open_mend (s.image old) d so)) mark
      (λ d left so. open_mark (s.image old) (s.image mid) mended (is (clocked.told new (s.moment mid) d left)) now d so)

-- the puts of a mend, and one
pub puts_marked : (count : ℕ) (a b c : Snapshot) (k l m : ℕ) → count ≤ repair_puts → k ≤ l → l ≤ m → ArePuts count k l a b → SomePuts 1 l m b c → SomePuts (repair_puts + 1) k m a c
puts_marked count a b c k l m few low high mended mark = record {
  count = count + mark.count;
  few = let most = mark.few in omega (arith, few, most);
  made = made_then count mark.count a b c k l m low high mended mark.made;
}

-- and a look
pub puts_looked : (most : ℕ) (a b c : Snapshot) (k l m : ℕ) → l ≤ m → c ≡ b → SomePuts most k l a b → SomePuts most k m a c
puts_looked most a b c k l m later same puts =
    subst (λ (x : Snapshot). SomePuts most k m a x) (sym same) (record { count = puts.count; few = puts.few; made = wider_made puts.count a b k k l m (omega arith) later puts.made })
