-- An accepted SETATTR as a plan.
use Rattle.std.proofs.Common.{◌≡◌, ℕ, ◌<◌, ◌≤◌, Bool, true, false, cond, not, ◌&&◌, ◌||◌, List, [], ◌∷◌, set, refl, sym, ap, ◌∙◌, arith, ⊎_elim, ltb, Option, Some, None, is_some}
use Rattle.std.proofs.lemmas.Bool.{cases_lt}
use Rattle.std.specs.FinMap.{get}
use Rattle.std.specs.Option.{option_map}
use Rattle.files_model.specs.Attributes.{cut_at, set_node, is_root, is_owner, is_other, is_own_group, sets_owned, is_above}
use Rattle.files_model.specs.declared.attributes.Attr.{Attr}
use Rattle.files_model.specs.declared.attributes.FileId.{FileId}
use Rattle.files_model.specs.declared.attributes.Kind.{Kind}
use Rattle.files_model.specs.declared.attributes.Sattr.{Sattr}
use Rattle.files_model.specs.declared.call.Call.TheVariants.{Setattr}
use Rattle.files_model.specs.declared.credential.Cred.{Cred}
use Rattle.files_model.specs.declared.permission.Want.TheVariants as want
use Rattle.files_model.specs.declared.reply.Reply.TheVariants as reply
use Rattle.files_model.specs.declared.reply.Stat.{Stat}
use Rattle.files_model.specs.declared.reply.Stat.TheVariants as stat
use Rattle.files_model.specs.Files.{Node, Files, Sectors, sectors_of, clipped, IsBody, live}
use Rattle.files_model.specs.Permission as permission
use Rattle.files_model.specs.Space.{size_limit}
use Rattle.files_model.specs.Step.{attr_of, with_node, at_live, unless, setattr_refusal, setattr_row}
use Rattle.files_model.specs.Torn.{after_calls}
use Rattle.files_model.proofs.Maps.{get-tabulated, get-tabulated_above, same_maps}
use Rattle.v7_plans.specs.Resizing.{IsResized}

-- a body cut at its own size
pub cut-fixed : (size : ℕ) (sectors : Sectors) → IsBody size sectors → cut_at size sectors ≡ sectors
unfolding cut_at
cut-fixed size sectors body = same_maps (cut_at size sectors) sectors (λ k. ⊎_elim
    (λ (lt : k < sectors_of size). get-tabulated (λ q. option_map (clipped size q) (get sectors q)) (sectors_of size) k lt ∙ fixed k (get sectors k) refl)
    (λ (ge : sectors_of size ≤ k). get-tabulated_above (λ q. option_map (clipped size q) (get sectors q)) (sectors_of size) k ge ∙ sym (none k ge (get sectors k) refl))
    (cases_lt k (sectors_of size)))
  where
    fixed : (k : ℕ) (o : Option (List ℕ)) → get sectors k ≡ o → option_map (clipped size k) o ≡ o
    fixed k None e = refl
    fixed k (Some bytes) e = ap Some (body.zeros k bytes e)

    none : (k : ℕ) → sectors_of size ≤ k → (o : Option (List ℕ)) → get sectors k ≡ o → o ≡ None
    none k ge None e = refl
    none k ge (Some bytes) e = let lt : k < sectors_of size = body.below k bytes e in absurd (omega arith)

passed : (b : Bool) (status : Stat) (rest : Option Stat) → cond b (Some status) rest ≡ None → (b ≡ false) × (rest ≡ None)
passed true status rest e = absurd (cc)
passed false status rest e = (refl, e)

-- what the refusals of a size say of an accepted one
pub record IsSizeFor (kind : Kind) (size : Option ℕ) : Type 0 where
  pub directory : (is_some size && permission.is_directory kind) ≡ false
  pub link : (is_some size && permission.is_link kind) ≡ false
  pub within : is_above size size_limit ≡ false

pub accepted-size : (read_only : Bool) (attr : Attr) (set : Sattr) (cred : Cred) → setattr_refusal read_only attr set cred ≡ None → IsSizeFor attr.kind set.size
accepted-size read_only attr set cred e =
    let a = passed read_only stat.Rofs _ e in
    let b = passed (is_some set.size && permission.is_directory attr.kind) stat.Isdir _ a.1 in
    let c = passed (is_some set.size && permission.is_link attr.kind) stat.Nxio _ b.1 in
    let d = passed (sets_owned set && not (is_owner cred attr || is_root cred)) stat.Perm _ c.1 in
    let f = passed (is_other set.uid attr.uid && not (is_root cred)) stat.Perm _ d.1 in
    let g = passed (is_other set.gid attr.gid && not (is_root cred || (is_owner cred attr && is_own_group cred set.gid))) stat.Perm _ f.1 in
    let h = passed (is_some set.size && not (permission.allows cred attr want.Write)) stat.Acces _ g.1 in
    let j = passed (is_above set.size size_limit) stat.Fbig _ h.1 in
    record { directory = b.0; link = c.0; within = j.0 }

not_above : (a b : ℕ) → ltb a b ≡ false → b ≤ a
not_above a b e = grind arith

-- the node after an accepted SETATTR
pub set-resized : (n : Node) (set : Sattr) (now : ℕ) → IsBody n.size n.sectors → n.size ≤ size_limit → IsSizeFor n.kind set.size → IsResized n (set_node n set now)
unfolding set_node
set-resized n set now body low sized = by_size set.size sized
  where
    by_size : (o : Option ℕ) → IsSizeFor n.kind o → IsResized n (set_node n (record set { size = o }) now)
    by_size None s = record {
      same = refl;
      sectors = λ _. sym (cut-fixed n.size n.sectors body);
      directory = λ _. (refl, refl);
      link = λ _. refl;
      within = low;
    }
    by_size (Some size) s = record {
      same = refl;
      sectors = λ _. refl;
      directory = λ d. let f : permission.is_directory n.kind ≡ false = s.directory in absurd (cc);
      link = λ d. let f : permission.is_link n.kind ≡ false = s.link in absurd (cc);
      within = not_above size_limit size s.within;
    }

-- it changes that node alone
pub setattr-sets : (files : Files) (file : FileId) (set : Sattr) (cred : Cred) (now : ℕ) (n : Node) → live files file ≡ Some n → setattr_refusal files.read_only (attr_of file.ino n) set cred ≡ None
    → after_calls files ((Setattr file set, cred) ∷ []) now ≡ with_node files file.ino (set_node n set now)
unfolding setattr_row
setattr-sets files file set cred now n is none =
    ap (λ o. (at_live files o (λ n. unless files (setattr_refusal files.read_only (attr_of file.ino n) set cred) (reply.Attr (attr_of file.ino (set_node n set now)), with_node files file.ino (set_node n set now)))).1) is
    ∙ ap (λ r. (unless files r (reply.Attr (attr_of file.ino (set_node n set now)), with_node files file.ino (set_node n set now))).1) none
