-- What a LOOKUP answers, by what it found.
use Rattle.std.proofs.Common.{◌≡◌, ℕ, true, false, cond, List, Option, Some, None, sym, ap, subst, ◌∙◌}
use Rattle.std.specs.List.{position}
use Rattle.files_model.specs.declared.attributes.FileId.{FileId}
use Rattle.files_model.specs.declared.credential.Cred.{Cred}
use Rattle.files_model.specs.declared.call.Call.TheVariants.{Lookup}
use Rattle.files_model.specs.declared.reply.Reply.{Reply}
use Rattle.files_model.specs.declared.reply.Reply.TheVariants as reply
use Rattle.files_model.specs.declared.reply.Stat.{Stat}
use Rattle.files_model.specs.declared.reply.Stat.TheVariants as stat
use Rattle.files_model.specs.Names.{has_name, number_at}
use Rattle.files_model.specs.Step.{step}
use Rattle.stable.specs.Store.{Image}
use Rattle.v7_layout.specs.declared.inode.Inode.{Inode}
use Rattle.v7_map.specs.Image.{inode_at, is_inode}
use Rattle.v7_map.specs.Frame as frames
use Rattle.v7_map.specs.Frame.{frame}
use Rattle.v7_map.specs.Stored.{is_standing, answer_by}
use Rattle.v7_map.specs.View.{view}
use Rattle.v7_map.specs.Weak.{IsStrong}
use Rattle.v7_read.specs.declared.found.Found.{Found}
use Rattle.v7_read.specs.Found.{IsFile}
use Rattle.v7_entries.specs.Answers.{lookup_refusal_by, search_refusal_by, handle_reply, answer_at}
use Rattle.v7_entries.specs.Bodies.{HasBody, slots_at}
use Rattle.v7_entries.specs.Found.{FindsName, IsNamedSlot}
use Rattle.v7_entries.specs.declared.named.NamedSlot.{NamedSlot}
use Rattle.v7_entries.proofs.Directories.{weak_body}
use Rattle.v7_entries.proofs.Lookups.{lookup-answer, lookup_directory, used_inode, named_used}

module _ (image : Image) (strong : IsStrong (frame image)) (dir : FileId) (name : List ℕ) (cred : Cred) (now : ℕ) where
  abbrev n : Inode
  n = inode_at image dir.ino

  abbrev at_entry : ℕ → Reply
  at_entry k = answer_by (search_refusal_by dir.ino n cred) (handle_reply (number_at (slots_at image n) k) (inode_at image (number_at (slots_at image n) k)))

  abbrev answer : Option Stat → Option ℕ → Reply
  answer o at = answer_by o (answer_at at at_entry)

  pub lookup_stale : is_standing image dir ≡ false → reply.Refused stat.Stale ≡ (step (view image) (Lookup dir name) cred now).0
  lookup_stale stale = sym (lookup-answer image strong dir name cred now ∙ ap (λ b. cond b (answer (lookup_refusal_by n name) (position (has_name name) (slots_at image n))) (reply.Refused stat.Stale)) stale)

  module _ (found : Found) (is : IsFile image dir found) where
    answered : (o : Option Stat) → lookup_refusal_by found.inode name ≡ o → (step (view image) (Lookup dir name) cred now).0 ≡ answer o (position (has_name name) (slots_at image n))
    answered o so =
        lookup-answer image strong dir name cred now
        ∙ ap (λ b. cond b (answer (lookup_refusal_by n name) (position (has_name name) (slots_at image n))) (reply.Refused stat.Stale)) is.stands
        ∙ ap (λ (m : Inode). answer (lookup_refusal_by m name) (position (has_name name) (slots_at image n))) (sym is.inode) ∙ ap (λ p. answer p (position (has_name name) (slots_at image n))) so

    pub lookup_refused : (status : Stat) → lookup_refusal_by found.inode name ≡ Some status → reply.Refused status ≡ (step (view image) (Lookup dir name) cred now).0
    lookup_refused status so = sym (answered (Some status) so)

    module _ (accepted : lookup_refusal_by found.inode name ≡ None) where
      directory : frames.is_directory ((frame image).head dir.ino) ≡ true
      directory = lookup_directory image dir.ino name (ap (λ (m : Inode). lookup_refusal_by m name) (sym is.inode) ∙ accepted)

      pub found_body : HasBody image found.inode
      found_body = subst (HasBody image) (sym is.inode) (weak_body image dir.ino strong.weak directory)

      pub lookup_none : FindsName image found.inode name None → reply.Refused stat.Noent ≡ (step (view image) (Lookup dir name) cred now).0
      lookup_none none = sym (answered None accepted ∙ ap (λ at. answer None at) (ap (λ (m : Inode). position (has_name name) (slots_at image m)) (sym is.inode) ∙ none))

      module _ (entry : NamedSlot) (named : IsNamedSlot image found.inode name entry) where
        first : position (has_name name) (slots_at image n) ≡ Some entry.slot
        first = ap (λ (m : Inode). position (has_name name) (slots_at image m)) (sym is.inode) ∙ named.first

        number : number_at (slots_at image n) entry.slot ≡ entry.ino
        number = ap (λ (m : Inode). number_at (slots_at image m) entry.slot) (sym is.inode) ∙ sym named.number

        at_slot : (o : Option Stat) → search_refusal_by dir.ino found.inode cred ≡ o → (step (view image) (Lookup dir name) cred now).0 ≡ answer_by o (handle_reply entry.ino (inode_at image entry.ino))
        at_slot o so =
            answered None accepted ∙ ap (λ at. answer None at) first
            ∙ ap (λ (p : Option Stat). answer_by p (handle_reply (number_at (slots_at image n) entry.slot) (inode_at image (number_at (slots_at image n) entry.slot)))) (ap (λ (m : Inode). search_refusal_by dir.ino m cred) (sym is.inode) ∙ so)
            ∙ ap (λ (i : ℕ). answer_by o (handle_reply i (inode_at image i))) number

        pub lookup_unsearched : (status : Stat) → search_refusal_by dir.ino found.inode cred ≡ Some status → reply.Refused status ≡ (step (view image) (Lookup dir name) cred now).0
        lookup_unsearched status so = sym (at_slot (Some status) so)

        pub inode_named : is_inode image entry.ino ≡ true
        inode_named = subst (λ (i : ℕ). is_inode image i ≡ true) number (used_inode image strong (number_at (slots_at image n) entry.slot) (named_used image strong dir.ino directory name entry.slot first))

        pub lookup_found : search_refusal_by dir.ino found.inode cred ≡ None → (inode : Inode) → inode ≡ inode_at image entry.ino → handle_reply entry.ino inode ≡ (step (view image) (Lookup dir name) cred now).0
        lookup_found allowed inode read = ap (handle_reply entry.ino) read ∙ sym (at_slot None allowed)
