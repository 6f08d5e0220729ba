pub mod SumLaws
pub mod PoolLaws
pub mod NeedLaws
pub mod UnservedPast
pub mod IndexLaws
pub mod Laws
