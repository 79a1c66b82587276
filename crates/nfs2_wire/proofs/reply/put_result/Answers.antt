use Rattle.nfs2_wire.proofs.reply.put_result.Goals as goal

pub put_handle-requires : goal.put_handle-requires
put_handle-requires c = rw c.in-Handle.is at c.requires

pub put_data-requires : goal.put_data-requires
put_data-requires c = rw c.in-Data.is at c.requires

pub returns-in-Attr : goal.returns-in-Attr
returns-in-Attr c = rw c.in-Attr.is c.put_attr.ensures

pub returns-in-Handle : goal.returns-in-Handle
returns-in-Handle c = rw c.in-Handle.is c.put_handle.ensures

pub returns-in-Data : goal.returns-in-Data
returns-in-Data c = rw c.in-Data.is c.put_data.ensures
