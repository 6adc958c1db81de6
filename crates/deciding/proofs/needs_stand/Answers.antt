use Rattle.deciding.proofs.Ruling.{asked, stays, forced_sure, reached_sure, name_fails, pair_needs, open_needs, marked_needs, shut_branches, key_branches, key_fails, look_fails, matched_box, other_box, met_settles, settles_on, first_way}
use Rattle.deciding.proofs.Walked.{earlier_fails}
use Rattle.deciding.proofs.needs_stand.Goals as goal

pub returns : goal.returns
returns c = record { asked = asked; stays = stays; forced = forced_sure; reached = reached_sure; name = name_fails; halves = pair_needs; opens = open_needs; marked = marked_needs; shut = shut_branches; key = key_branches; shape = key_fails; look = look_fails; matched = matched_box; other = other_box; earlier = earlier_fails; met = met_settles; on = settles_on; first = first_way }
