use Rattle.std.proofs.Common.{length, ap, arith}
use Rattle.shop_model.specs.StartLaws.{length-starts_of}
use Rattle.shop_model.proofs.shop.ShopSimulationModel.starts.Goals as goal

pub overflow_cast-result : goal.overflow_cast-result
overflow_cast-result c =
    let shop = c.args.self.now in
    omega (arith, ap length shop.listed, length-starts_of shop.stations.items shop.routes.classes, shop.in_range.routes.few, shop.in_range.few_times)
