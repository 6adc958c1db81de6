use Rattle.deciding.proofs.Scanning.{plans_grounded, scan_starts, scan_passes}
use Rattle.deciding.proofs.scan_stands.Goals as goal

pub returns : goal.returns
returns c = record { grounded = plans_grounded; starts = scan_starts; passes = scan_passes }
