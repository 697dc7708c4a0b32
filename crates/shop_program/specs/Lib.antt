pub mod Answer
pub mod RowForms
pub mod SeededShops
pub mod ShopFamilies
