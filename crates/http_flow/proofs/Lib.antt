pub mod ExchangeLaws
pub mod BoundLaws
pub mod NextLaws
pub mod FrontLaws
pub mod FlowLaws
pub mod PageLaws
