use Rattle.mb_dirs.specs.Making.{file_made}
use Rattle.mb_dirs.proofs.Creating.{number_asked, no_room, name_asked, inode_asked, all_done}
use Rattle.mb_dirs.proofs.creates.create_in.Goals as goal

pub returns-in-Need : goal.returns-in-Need
returns-in-Need g c = number_asked (g.V.View.shown c.args.view.now) c.args.changes.now c.choose_number.new.changes c.args.dir c.args.links c.args.new.now.moment c.args.gap c.args.name.now (λ ino. file_made c.args.new.now) c.args.demanded c.in-Need.need c.choose_number.new.changes c.in-Need.ensures

pub returns-in-NoneLeft-enter : goal.returns-in-NoneLeft-enter
returns-in-NoneLeft-enter g c = no_room (g.V.View.shown c.args.view.now) c.args.changes.now c.choose_number.new.changes c.args.dir c.args.links c.args.new.now.moment c.args.gap c.args.name.now (λ ino. file_made c.args.new.now) c.args.demanded c.in-Number.ino c.in-Number.ensures c.enter.new.changes c.enter.new.changes c.in-NoneLeft-enter.ensures

pub returns-in-Need-enter : goal.returns-in-Need-enter
returns-in-Need-enter g c = name_asked (g.V.View.shown c.args.view.now) c.args.changes.now c.choose_number.new.changes c.args.dir c.args.links c.args.new.now.moment c.args.gap c.args.name.now (λ ino. file_made c.args.new.now) c.args.demanded c.in-Number.ino c.in-Number.ensures c.enter.new.changes c.enter.new.changes c.in-Need-enter.need c.in-Need-enter.ensures

pub returns-in-Need-make_file : goal.returns-in-Need-make_file
returns-in-Need-make_file g c = inode_asked (g.V.View.shown c.args.view.now) c.args.changes.now c.choose_number.new.changes c.args.dir c.args.links c.args.new.now.moment c.args.gap c.args.name.now (λ ino. file_made c.args.new.now) c.args.demanded c.in-Number.ino c.in-Number.ensures c.enter.new.changes c.in-Done.ensures c.make_file.new.changes c.in-Need-make_file.need c.in-Need-make_file.ensures

pub returns-in-Done-make_file : goal.returns-in-Done-make_file
returns-in-Done-make_file g c = all_done (g.V.View.shown c.args.view.now) c.args.changes.now c.choose_number.new.changes c.args.dir c.args.links c.args.new.now.moment c.args.gap c.args.name.now (λ ino. file_made c.args.new.now) c.args.demanded c.in-Number.ino c.in-Number.ensures c.enter.new.changes c.in-Done.ensures c.make_file.new.changes c.in-Done-make_file.ensures
