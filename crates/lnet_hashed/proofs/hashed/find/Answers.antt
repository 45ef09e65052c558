use Rattle.lnet_hashed.proofs.Indexing.{found-is, found-live}
use Rattle.lnet_hashed.proofs.hashed.find.Goals as goal

pub returns-clause-found : goal.returns-clause-found
returns-clause-found c = found-is c.args.hashed.now.store.network c.args.hashed.now.keys c.args.hashed.now.room c.requires.indexed c.requires.clean c.args.key.now c.find.result c.find.ensures.stands

pub returns-clause-live : goal.returns-clause-live
returns-clause-live c = found-live c.args.hashed.now.store.network c.args.key.now c.find.result (returns-clause-found c)
