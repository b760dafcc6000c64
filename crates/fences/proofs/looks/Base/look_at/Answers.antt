use Rattle.program.specs.Meaning.{program}
use Rattle.fences.proofs.LookLaws.{looked, may_search, count_searched}
use Rattle.fences.proofs.looks.Base.look_at.Goals as goal

pub search-requires : goal.search-requires
search-requires c =
    let x = c.requires.ground.explored in
    record {
      ahead = may_search c.args.self.now.p.now _ c.count-threads.ensures.value c.count-threads.ensures.few c.args.self.now.queue.now c.args.self.now.edges.now c.args.guards c.args.self.now.n x c.requires.ground.kept;
      some = x.found.some_found;
      in_cost = c.requires.in_cost;
      in_from = c.requires.in_from;
    }

pub returns : goal.returns
returns c =
    let p = c.args.self.now.p.now in
    let q = c.args.self.now.queue.now in
    let g = c.args.self.now.edges.now in
    let x = c.requires.ground.explored in
    looked (program p) q g c.args.self.now.once.now c.args.guards c.args.self.now.n c.search.new.cost c.search.new.from c.find_bad.result x c.requires.ground.marks
    (count_searched (c.args.self.now.p.now) _ c.count-threads.ensures.value c.count-threads.ensures.few q g c.args.guards c.args.self.now.n x c.search.new.cost c.search.new.from c.search.ensures.searched) c.find_bad.ensures
