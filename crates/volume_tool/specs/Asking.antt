-- What was read of the words.
use Rattle.std.specs.Prelude.{◌≤◌, length}
use Rattle.run_lines.specs.Naming.{named_of}
use Rattle.volume_tool.specs.Words.{Plan, Asked, Make, Check, Recover}
use Rattle.volume_tool.specs.declared.words.Plan.{Plan as ReadPlan}
use Rattle.volume_tool.specs.declared.words.Asked.{Asked as ReadWords}
use Rattle.volume_tool.specs.declared.words.Asked.TheVariants as read

abbrev pub plan_read : ReadPlan → Plan
plan_read plan = record { size = plan.size; inodes = plan.inodes; buffers = plan.buffers; name = plan.name; second = plan.second }

abbrev pub asked_of : ReadWords → Asked
asked_of (read.Make volume plan) = Make (named_of volume) (plan_read plan)
asked_of (read.Check volume) = Check (named_of volume)
asked_of (read.Recover volume accept_loss) = Recover (named_of volume) accept_loss

-- what is known of what was read: the word of the volume is short, and a volume that is to be made has an inode
abbrev pub IsRead : ReadWords → Type 0
IsRead (read.Make volume plan) = (length volume.word.now ≤ 401) × (1 ≤ plan.inodes)
IsRead (read.Check volume) = length volume.word.now ≤ 401
IsRead (read.Recover volume accept_loss) = length volume.word.now ≤ 401
