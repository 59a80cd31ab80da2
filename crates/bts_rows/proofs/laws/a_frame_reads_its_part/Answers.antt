use Rattle.bts_rows.proofs.laws.a_frame_reads_its_part.Goals as goal
use Rattle.bts_rows.proofs.Frames.{row_in_order}

pub returns : goal.returns
returns c = row_in_order
