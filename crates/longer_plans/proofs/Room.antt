-- A directory with room for a slot at its end, and an inode that gives it that slot.
use Rattle.std.proofs.Common.{◌≡◌, ◌≢◌, ℕ, ◌+◌, ◌/◌, ◌%◌, ◌<◌, ◌≤◌, true, not, ◌==◌, ◌||◌, sym, ap, subst, ◌∙◌, arith, ⊎_elim}
use Rattle.std.proofs.lemmas.Bool.{eqb-true, cases_eq, cases_lt}
use Rattle.std.specs.List.{range_with_len, list_any}
use Rattle.v7_layout.specs.declared.inode.Inode.{Inode}
use Rattle.files_model.specs.Files.{sectors_of}
use Rattle.files_model.specs.Space.{size_limit}
use Rattle.stable.specs.Store.{Image}
use Rattle.v7_map.specs.Image.{inode_at}
use Rattle.v7_map.specs.Frame.{Frame, Place, Body, Single, Double, head_of, is_directory, address_of, frame}
use Rattle.v7_map.specs.Tree.{tree, is_walked}
use Rattle.v7_map.specs.Weak.{IsWeak, IsGood}
use Rattle.v7_map.proofs.AnyFrame.{frame-IsFrame}
use Rattle.v7_plans.specs.Placed.{IsMine, IsPlaced}
use Rattle.v7_plans.proofs.Local.{held-mine}
use Rattle.v7_strokes.specs.Targets.{IsTarget}
use Rattle.v7_strokes.proofs.Exempt.{free-mine}
use Rattle.v7_strokes.proofs.SlotStep.{walked-dir}

-- a slot may come as the k-th at the end of walked directory d
pub record HasRoom (image : Image) (d k : ℕ) : Type 0 where
  pub weak : IsWeak (frame image)
  pub walked : is_walked (tree (frame image)) d ≡ true
  pub end : k ≡ ((frame image).head d).size / 16
  pub even : ((frame image).head d).size % 16 ≡ 0
  pub within : ((frame image).head d).size + 16 ≤ size_limit
  pub none_past : (l : ℕ) → k / 32 < l → (frame image).address d (Body l) ≡ 0

pub room-frame : (old new : Image) (d k : ℕ) → frame new ≡ frame old → HasRoom old d k → HasRoom new d k
room-frame old new d k e x = record {
  weak = subst IsWeak (sym e) x.weak;
  walked = subst (λ f. is_walked (tree f) d ≡ true) (sym e) x.walked;
  end = subst (λ (f : Frame). k ≡ (f.head d).size / 16) (sym e) x.end;
  even = subst (λ (f : Frame). (f.head d).size % 16 ≡ 0) (sym e) x.even;
  within = subst (λ (f : Frame). (f.head d).size + 16 ≤ size_limit) (sym e) x.within;
  none_past = subst (λ (f : Frame). (l : ℕ) → k / 32 < l → f.address d (Body l) ≡ 0) (sym e) x.none_past;
}

-- ---- an inode with these blocks and a slot more

module _ (image : Image) (d k : ℕ) (n : Inode) (target : Place → ℕ) (x : HasRoom image d k) (lay : IsTarget (frame image) d (k / 32) target)
    (mode : n.mode ≡ (inode_at image d).mode) (longer : n.size ≡ ((frame image).head d).size + 16) (at : (p : Place) → address_of image (head_of n) p ≡ target p) where
  dir : is_directory ((frame image).head d) ≡ true
  dir = walked-dir image d x.walked

  sectors_more : sectors_of n.size ≡ k / 32 + 1
  sectors_more = let end = x.end in let even = x.even in let l = longer in omega arith

  good : IsGood (head_of n)
  unfolding frame
  good = let g = x.weak.good d ((frame-IsFrame image).directories d dir) in let r = g.directory (eqb-true ((frame image).head d).type 4 dir) in let l = longer in record {
    kind = subst (λ m. ((m / 4096 == 4) || ((m / 4096 == 8) || (m / 4096 == 10))) ≡ true) (sym mode) g.kind;
    length = subst (λ s. s ≤ size_limit) (sym longer) x.within;
    link = λ e. absurd (not_both ((inode_at image d).mode / 4096) (eqb-true ((inode_at image d).mode / 4096) 4 dir) (ap (λ m. m / 4096) (sym mode) ∙ e));
    directory = λ e. (let low = r.0 in omega arith, let even = x.even in omega arith);
  }
    where
      not_both : (t : ℕ) → t ≡ 4 → t ≡ 10 → ⊥
      not_both t a b = omega arith

  mine : (p : Place) → target p ≢ 0 → IsMine (frame image) d (target p)
  mine p nz = ⊎_elim
      (λ (z : (frame image).address d p ≡ 0). free-mine (frame image) d (target p) (lay.fresh p z nz))
      (λ (h : (frame image).address d p ≢ 0). subst (IsMine (frame image) d) (sym (lay.kept p h)) (held-mine (frame image) d p x.weak h))
      (cases_eq ((frame image).address d p) 0)

  needed : (l : ℕ) → l < k / 32 + 1 → target (Body l) ≢ 0
  needed l lt z = ⊎_elim
      (λ (low : l < k / 32). let h = x.weak.needed d l dir (let end = x.end in omega arith) in h (sym (lay.kept (Body l) h) ∙ z))
      (λ (ge : k / 32 ≤ l). let e : l ≡ k / 32 = omega arith in lay.held (subst (λ m. target (Body m) ≡ 0) e z))
      (cases_lt l (k / 32))

  past : (l : ℕ) → k / 32 + 1 ≤ l → target (Body l) ≡ 0
  past l le = ⊎_elim
      (λ (z : target (Body l) ≡ 0). z)
      (λ (nz : target (Body l) ≢ 0). let e = lay.added l (x.none_past l (omega arith)) nz in absurd (omega arith))
      (cases_eq (target (Body l)) 0)

  pub room-placed : IsPlaced image d (head_of n)
  room-placed = record {
    good = λ u. good;
    mine = λ p nz. subst (IsMine (frame image) d) (sym (at p)) (mine p (λ z. nz (at p ∙ z)));
    needed = λ l dir' lt z. needed l (subst (λ m. l < m) sectors_more lt) (sym (at (Body l)) ∙ z);
    apart = λ p q nz same. lay.apart p q (λ z. nz (at p ∙ z)) (sym (at p) ∙ same ∙ at q);
    no_double = at Double ∙ lay.double;
    past = λ l le. at (Body l) ∙ past l (subst (λ m. m ≤ l) sectors_more le);
    single = λ nz. (λ z. list_any (λ l. not (at (Body l) z == 0)) (range_with_len 10 128)) ∙ lay.map_needed (λ z. nz (at Single ∙ z));
  }

  pub room-kept : (l : ℕ) → l < sectors_of ((frame image).head d).size → address_of image (head_of n) (Body l) ≡ (frame image).address d (Body l)
  room-kept l lt = at (Body l) ∙ lay.kept (Body l) (x.weak.needed d l dir lt)
