-- and it stands for the same files.
use Rattle.std.proofs.Common.{◌≡◌, ◌≢◌, ◌⊎◌, inl, inr, ℕ, ◌+◌, ◌-◌, ◌/◌, ◌%◌, ◌<◌, true, cond, refl, sym, ap, subst, ◌∙◌, ⊎_elim, eqb, Some, None}
use Rattle.std.proofs.lemmas.Bool.{cases_eq}
use Rattle.std.specs.FinMap.{empty}
use Rattle.v7_layout.specs.declared.inode.Inode.{Inode}
use Rattle.v7_layout.specs.Numbers.{field}
use Rattle.files_model.specs.Files.{sectors_of, clipped, tabulated}
use Rattle.files_model.proofs.Maps.{tabulated_same}
use Rattle.stable.specs.Store.{Image}
use Rattle.v7_map.specs.Image.{sector_at, inode_at, is_read_only}
use Rattle.v7_map.specs.Frame.{Body, is_directory, frame}
use Rattle.v7_map.specs.Tree.{Tree, tree, is_named}
use Rattle.v7_map.specs.Weak.{IsWeak}
use Rattle.v7_map.specs.View.{view, files_of, node_of, body_of, body_at, held, kind_of}
use Rattle.v7_map.proofs.Frames.{cond_same}
use Rattle.v7_mend.specs.Keeps.{KeepsInode, FreesInode, KeepsFiles, KeepsVolume}
use Rattle.v7_mend.proofs.KeptFrames.{kept-dir, kept-size, keeps-pruned, keeps-links, keeps-named, named_kept, keeps-weak}

module _ (old new : Image) (weak : IsWeak (frame old)) (keeps : KeepsFiles old new) where
  kept-held : (i k : ℕ) → KeepsInode old new i → k < sectors_of (inode_at old i).size
      → held new (inode_at old i).size k ((frame new).address i (Body k)) ≡ held old (inode_at old i).size k ((frame old).address i (Body k))
  kept-held i k kept lt = ap (held new (inode_at old i).size k) (kept.below k lt) ∙ ⊎_elim
      (λ (z : (frame old).address i (Body k) ≡ 0). subst (λ a. held new (inode_at old i).size k a ≡ held old (inode_at old i).size k a) (sym z) refl)
      (λ (nz : (frame old).address i (Body k) ≢ 0). ap (λ s. cond (eqb ((frame old).address i (Body k)) 0) None (Some (clipped (inode_at old i).size k s))) (kept.contents k lt nz))
      (cases_eq ((frame old).address i (Body k)) 0)

  kept-body : (i : ℕ) → KeepsInode old new i → body_at new (frame new) i ≡ body_at old (frame old) i
  unfolding body_of frame
  kept-body i kept =
      (λ z. cond (kept-dir old new weak keeps i kept z) empty (tabulated (λ k. held new (kept-size old new weak keeps i kept z) k ((frame new).address i (Body k))) (sectors_of (kept-size old new weak keeps i kept z))))
      ∙ ap (cond (is_directory ((frame old).head i)) empty) (tabulated_same _ _ _ (λ k lt. kept-held i k kept lt))

  kept-node : (i : ℕ) → is_named (tree (frame old)) i ≡ true → KeepsInode old new i
      → node_of (tree (frame new)) i (inode_at new i) (body_at new (frame new) i) ≡ node_of (tree (frame old)) i (inode_at old i) (body_at old (frame old) i)
  kept-node i named kept z = let n = kept.bare z in record {
    kind = kind_of (n.mode / 4096);
    mode = n.mode % 4096;
    uid = n.uid;
    gid = n.gid;
    nlink = keeps-links old new weak keeps i z;
    size = n.size;
    atime = n.atime;
    mtime = n.mtime;
    ctime = n.ctime;
    sectors = kept-body i kept z;
    slots = (keeps-pruned old new weak keeps).slots i named z;
  }

  generation : (i : ℕ) → (inode_at new i).generation ≡ (inode_at old i).generation
  generation i = ⊎_elim (λ (k : KeepsInode old new i). ap (λ (n : Inode). n.generation) k.bare) (λ (f : FreesInode old new i). f.generation) (keeps.inodes i)

  pub keeps-view : view new ≡ view old
  unfolding view frame files_of
  keeps-view = let t : Tree = tree (frame old) in let u : Tree = tree (frame new) in
      let nodes : tabulated (λ i. cond (is_named u i) (Some (node_of u i (inode_at new i) (body_at new (frame new) i))) None) (u.inodes + 1)
      ≡ tabulated (λ i. cond (is_named t i) (Some (node_of t i (inode_at old i) (body_at old (frame old) i))) None) (t.inodes + 1) =
      (λ z. tabulated (λ i. cond (keeps-named old new weak keeps i z) (Some (node_of u i (inode_at new i) (body_at new (frame new) i))) None) ((keeps-pruned old new weak keeps).inodes z + 1))
      ∙ tabulated_same _ _ (t.inodes + 1) (λ i lt. cond_same (is_named t i) _ _ None (λ named. ap Some (kept-node i named (named_kept old new weak keeps i named)))) in
      λ z. record {
        nodes = nodes z;
        generations = tabulated (λ i. cond (eqb i 0) None (Some (generation i z))) ((keeps-pruned old new weak keeps).inodes z + 1);
        inodes = (keeps-pruned old new weak keeps).inodes z;
        blocks = field (keeps.first z) 2 4 - field (keeps.first z) 0 2;
        read_only = is_read_only (keeps.first z);
      }

  -- so at each moment the volume is kept
  pub keeps_volume : KeepsVolume old new
  keeps_volume = record { files = record { weak = keeps-weak old new weak keeps; view = keeps-view }; super = keeps.first }

-- nothing changes
pub keeps_same : (image : Image) → KeepsFiles image image
keeps_same image = record { length = refl; first = refl; inodes = λ i. inl (record { bare = refl; below = λ k lt. refl; places = λ p nz. refl; contents = λ k lt nz. refl }) }

-- one step and then another
pub keeps_then : (old mid new : Image) → IsWeak (frame old) → KeepsFiles old mid → KeepsFiles mid new → KeepsFiles old new
keeps_then old mid new weak a b = record {
  length = b.length ∙ a.length;
  first = b.first ∙ a.first;
  inodes = λ i. both i (a.inodes i) (b.inodes i);
}
  where
    both : (i : ℕ) → KeepsInode old mid i ⊎ FreesInode old mid i → KeepsInode mid new i ⊎ FreesInode mid new i → KeepsInode old new i ⊎ FreesInode old new i
    both i (inl k) (inl l) = inl (record {
      bare = l.bare ∙ k.bare;
      below = λ q lt. l.below q (subst (λ n. q < sectors_of n) (sym (size i k)) lt) ∙ k.below q lt;
      places = λ p nz. let e = l.places p nz in e ∙ k.places p (λ z. nz (e ∙ z));
      contents = λ q lt nz.
          let e : (frame mid).address i (Body q) ≡ (frame old).address i (Body q) = k.below q lt in
          subst (λ a. sector_at new a ≡ sector_at mid a) e (l.contents q (subst (λ n. q < sectors_of n) (sym (size i k)) lt) (λ z. nz (sym e ∙ z))) ∙ k.contents q lt nz;
    })
      where
        size : (i : ℕ) → KeepsInode old mid i → (inode_at mid i).size ≡ (inode_at old i).size
        size i k = ap (λ (n : Inode). n.size) k.bare
    both i (inl k) (inr f) = inr (record { unnamed = sym (keeps-named old mid weak a i) ∙ f.unnamed; free = f.free; generation = f.generation ∙ ap (λ (n : Inode). n.generation) k.bare })
    both i (inr f) (inl k) = inr (record { unnamed = f.unnamed; free = ap (λ (n : Inode). n.mode) k.bare ∙ f.free; generation = ap (λ (n : Inode). n.generation) k.bare ∙ f.generation })
    both i (inr f) (inr g) = inr (record { unnamed = f.unnamed; free = g.free; generation = g.generation ∙ f.generation })
