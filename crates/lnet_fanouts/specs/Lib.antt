pub mod FanoutViews
