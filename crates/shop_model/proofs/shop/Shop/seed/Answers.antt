use Rattle.shop_model.proofs.shop.Shop.seed.Goals as goal

pub returns-clause-below : goal.returns-clause-below
returns-clause-below c = c.args.self.now.in_range.seed
