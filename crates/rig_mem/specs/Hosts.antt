-- A host in memory: as it begins, and which of its calls find no memory.
use Rattle.std.specs.Prelude.{◌≡◌, ◌↔◌, List, [], Some, None, Result, IsErrOf}
use Rattle.stable.specs.Counts.{one_more}
use Rattle.rig.specs.declared.host.HostFault.{HostFault}
use Rattle.rig.specs.declared.host.HostFault.TheVariants as host_fault
use Rattle.rig.specs.declared.host.Post.{Post}
use Rattle.rig_mem.specs.declared.asks.Asks.{Asks}
use Rattle.rig_mem.specs.declared.clock.MemClock.{MemClock}
use Rattle.rig_mem.specs.declared.host.MemHost.{MemHost}
use Rattle.rig_mem.specs.declared.link.MemLink.{MemLink}

-- not asked yet, and nothing is to be refused
abbrev pub not_asked : Asks
not_asked = record { made = 0; starved = None; faults = 0 }

-- It was asked once more. Exactly the asking of the number told finds no memory.
pub record IsAsked {T : Type 0} (old new : Asks) (result : Result T HostFault) : Type 0 where
  pub no_memory : IsErrOf result host_fault.NoMemory ↔ (old.starved ≡ Some new.made)
  pub made : new.made ≡ one_more old.made
  pub starved : new.starved ≡ old.starved

-- A host that has given nothing yet: these are left to give, nothing is out or came back, no line was said, and it wasn't asked.
pub record IsNewHost {R P : Type 0} (rigs : List R) (posts : List (Post MemLink MemClock P)) (host : MemHost R P) : Type 0 where
  pub rigs_left : host.rigs.items ≡ rigs
  pub rigs_back : host.rigs_back.items ≡ []
  pub rigs_out : host.rigs_out ≡ 0
  pub posts_left : host.posts.items ≡ posts
  pub posts_back : host.posts_back.items ≡ []
  pub posts_out : host.posts_out ≡ 0
  pub lines : host.said.said.items ≡ []
  pub say_faults : host.said.faults ≡ 0
  pub asks : host.asks ≡ not_asked
