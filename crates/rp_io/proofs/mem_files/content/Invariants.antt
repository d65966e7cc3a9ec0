use Rattle.std.proofs.Common.{◌≡◌, drop}
use Rattle.rp_io.proofs.Found.{first_under}
use Rattle.rp_io.proofs.mem_files.content.Given as goal

-- what is left has the same first entry of the name
abbrev pub invariant-loop-listed : goal.invariant-loop-listed
invariant-loop-listed l = first_under l.name (drop l.listed-index l.files) ≡ first_under l.name l.files
