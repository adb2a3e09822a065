use Rattle.mb_fsops.proofs.Names.{end_found, gap_found, name_asks, name_found, search_asks}
use Rattle.mb_fsops.proofs.places.find_name.Goals as goal

pub returns-in-Found : goal.returns-in-Found
returns-in-Found g c = name_found (g.V.View.shown c.args.view.now) c.new-none.result c.new-none.ensures c.args.dir c.args.name.now c.in-Here.inode c.in-Here.ensures c.in-Found.at c.in-Found.ino c.in-Found.ensures

pub returns-in-Empty : goal.returns-in-Empty
returns-in-Empty g c = gap_found (g.V.View.shown c.args.view.now) c.new-none.result c.new-none.ensures c.args.dir c.args.name.now c.in-Here.inode c.in-Here.ensures c.in-Empty.at c.in-Empty.ensures

pub returns-in-Full : goal.returns-in-Full
returns-in-Full g c = end_found (g.V.View.shown c.args.view.now) c.new-none.result c.new-none.ensures c.args.dir c.args.name.now c.in-Here.inode c.in-Here.ensures c.in-Full.ensures

pub returns-in-Need : goal.returns-in-Need
returns-in-Need g c = name_asks (g.V.View.shown c.args.view.now) c.new-none.result c.new-none.ensures c.args.dir c.args.name.now c.in-Need.need c.in-Need.ensures

pub returns : goal.returns
returns g c = search_asks (g.V.View.shown c.args.view.now) c.new-none.result c.new-none.ensures c.args.dir c.args.name.now c.in-Here.inode c.in-Here.ensures c.in-Need-search.need c.in-Need-search.ensures
