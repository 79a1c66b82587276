-- Puts that are merged step by step.
use Rattle.std.proofs.Common.{◌≡◌, ℕ, ◌+◌, ◌<◌, ◌≤◌, true, List, [], ◌∷◌, ◌++◌, length, append-nil, append_assoc, refl, sym, ap, subst, ◌∙◌, arith}
use Rattle.stable.specs.Puts.{put_all, with_put, AllPastSuperBlock}
use Rattle.stable.specs.Store.{Image}
use Rattle.v7_map.specs.Image.{is_inode, inode_at, inode_sector}
use Rattle.v7_map.specs.Plan.{PutsInode}
use Rattle.v7_map.proofs.Prefixes.{put_all-append}
use Rattle.v7_plans.specs.Setting.{put_inode}
use Rattle.v7_strokes.specs.Entries.{inode_put}
use Rattle.v7_strokes.specs.Inodes.{timed_inode}
use Rattle.v7_strokes.specs.Last.{inode_puts, AreTimes}
use Rattle.v7_strokes.specs.Merged.{merged}
use Rattle.v7_strokes.proofs.Merging.{merged-all, merged-with, length-with_put}
use Rattle.plan_name.specs.Creating.{CanBePut}
use Rattle.plan_name.proofs.Fitting.{all-with_put}
use Rattle.plan_name.proofs.Past.{still}
use Rattle.rename_puts.specs.Times.{AddsTimes}

-- one put more can be put
pub one-more : (sectors most : ℕ) (puts : List (ℕ × List ℕ)) (put : ℕ × List ℕ) → CanBePut sectors most puts → 2 ≤ put.0 → put.0 < sectors → CanBePut sectors (most + 1) (with_put puts put)
one-more sectors most puts put x past stands = let few = x.few in let more = length-with_put puts put in record {
  few = omega arith;
  stand = all-with_put (λ (p : ℕ × List ℕ). p.0 < sectors) puts put x.stand stands;
  past = all-with_put (λ (p : ℕ × List ℕ). 2 ≤ p.0) puts put x.past past;
}

-- the first put
pub one-put : (sectors a : ℕ) (bytes : List ℕ) → 2 ≤ a → a < sectors → CanBePut sectors 1 ((a, bytes) ∷ [])
one-put sectors a bytes past stands = record { few = omega arith; stand = (stands, tt); past = (past, tt) }

-- as many puts, counted otherwise
pub can-equal : (sectors few most : ℕ) (puts : List (ℕ × List ℕ)) → few ≤ most → CanBePut sectors few puts → CanBePut sectors most puts
can-equal sectors few most puts le x = let short = x.few in record { few = omega arith; stand = x.stand; past = x.past }

-- ---- times

times-append : (image : Image) (now : ℕ) (ds es : List ℕ) (bs cs : List (List ℕ)) → AreTimes image now ds bs → AreTimes (put_all (inode_puts ds bs) image) now es cs → AreTimes image now (ds ++ es) (bs ++ cs)
times-append image now [] es [] cs h k = k
times-append image now [] es (b ∷ bs) cs h k = absurd h
times-append image now (d ∷ ds) es [] cs h k = absurd h
times-append image now (d ∷ ds) es (b ∷ bs) cs h k = (h.0, times-append (put_inode image d b) now ds es bs cs h.1 k)

puts-append : (image : Image) (now : ℕ) (ds es : List ℕ) (bs cs : List (List ℕ)) → AreTimes image now ds bs → inode_puts (ds ++ es) (bs ++ cs) ≡ inode_puts ds bs ++ inode_puts es cs
puts-append image now [] es [] cs h = refl
puts-append image now [] es (b ∷ bs) cs h = absurd h
puts-append image now (d ∷ ds) es [] cs h = absurd h
puts-append image now (d ∷ ds) es (b ∷ bs) cs h = ap (λ l. inode_put d b ∷ l) (puts-append (put_inode image d b) now ds es bs cs h.1)

pub adds-none : (image : Image) (now : ℕ) (raw old new : List (ℕ × List ℕ)) → old ≡ merged raw → new ≡ old → AddsTimes image now [] raw new
adds-none image now raw old new is same = record { bytes = []; times = tt; puts = same ∙ is ∙ ap merged (sym (append-nil raw)) }

pub adds-one : (image : Image) (now d : ℕ) (b : List ℕ) (raw old new : List (ℕ × List ℕ)) → old ≡ merged raw → new ≡ with_put old (inode_sector d, b) → AllPastSuperBlock old → is_inode image d ≡ true
    → (is_inode (put_all old image) d ≡ true → PutsInode (put_all old image) d b (timed_inode (inode_at (put_all old image) d) now)) → AddsTimes image now (d ∷ []) raw new
adds-one image now d b raw old new is added past inside put = record {
  bytes = b ∷ [];
  times = (subst (λ q. PutsInode q d b (timed_inode (inode_at q d) now)) (ap (λ l. put_all l image) is ∙ merged-all raw image) (put (still image old d past inside)), tt);
  puts = added ∙ ap (λ l. with_put l (inode_put d b)) is ∙ sym (merged-with raw (inode_put d b));
}

-- one after the other
pub adds-both : (image : Image) (now : ℕ) (ds es : List ℕ) (raw mid new : List (ℕ × List ℕ)) (x : AddsTimes image now ds raw mid) → AddsTimes image now es (raw ++ inode_puts ds x.bytes) new → AddsTimes image now (ds ++ es) raw new
adds-both image now ds es raw mid new x y = record {
  bytes = x.bytes ++ y.bytes;
  times = times-append (put_all raw image) now ds es x.bytes y.bytes x.times (subst (λ q. AreTimes q now es y.bytes) (put_all-append raw (inode_puts ds x.bytes) image) y.times);
  puts = y.puts ∙ ap merged (append_assoc raw (inode_puts ds x.bytes) (inode_puts es y.bytes) ∙ ap (λ l. raw ++ l) (sym (puts-append (put_all raw image) now ds es x.bytes y.bytes x.times)));
}
